-- The decoder decodes a block, acknowledges one, or cancels a stream.
use Rattle.std.proofs.Common.{ℕ, suc, ◌+◌, ◌<◌, ◌≡◌, Bool, true, false, List, [], ◌∷◌, ◌++◌, length, drop, take, map}
use Rattle.std.proofs.Common.{refl, sym, ap, ◌∙◌, arith, length-drop}
use Rattle.std.specs.List.{filter}
use Rattle.std.specs.Prelude.{nat_lt, not}
use Rattle.std.proofs.lemmas.Bool.{and_parts, ltb-true}
use Rattle.std.proofs.lemmas.List.{length-map, drop-drop, drop-map}
use Rattle.qpack_spec.specs.Instruction.{EncoderInstruction, DecoderInstruction, Acknowledgment, Cancellation}
use Rattle.qpack_spec.specs.History.{History}
use Rattle.qpack_spec.specs.Table.{UnacknowledgedBlock}
use Rattle.qpack_rules.specs.Session.{with_stream, increment_sum, stream_at}
use Rattle.qpack_safety.specs.AbstractSession.{AbstractBlock, is_dynamic, AbstractStream, AbstractSession}
use Rattle.qpack_safety.specs.AbstractSession.{waits_for_acknowledgment}
use Rattle.qpack_safety.proofs.OpenBlocks.{open_of}
use Rattle.qpack_safety.proofs.DecoderInstructions.{acks_in, fits_push, IsNoAck, fits_other, acks_push, acks_other}
use Rattle.qpack_safety.proofs.DecoderInstructions.{IsNoCancel}
use Rattle.qpack_safety.proofs.DecoderInstructions.{cancels_other, increments_append, increments_sum}
use Rattle.qpack_safety.proofs.Fronts.{filter_take, filter_take_more}
use Rattle.qpack_safety.proofs.Hearing.{increments_cons_ack, increments_cons_cancel}
use Rattle.qpack_safety.proofs.Invariant.{KeepsStream, Invariant, streams_update}

pub inv_decoded : (capacity maximum limit : ℕ) (w : AbstractSession) (s : ℕ) → Invariant capacity maximum limit w
    → Invariant capacity maximum limit (record w {
      streams = with_stream w.streams s
          (record (stream_at w.streams s) { decoded = (stream_at w.streams s).decoded + 1 });
    })
inv_decoded capacity maximum limit w s k =
    let st = stream_at w.streams s in
    let old = k.streams s in
    record {
      within = k.within;
      received = k.received;
      made = k.made;
      taken_leads = k.taken_leads;
      in_flight_leads = k.in_flight_leads;
      decoder = k.decoder;
      encoder = k.encoder;
      same_limit = k.same_limit;
      known_received_count = k.known_received_count;
      blocked = k.blocked;
      streams =
          streams_update (λ (q : ℕ) (v : AbstractStream). KeepsStream capacity maximum k.made (w.taken ++ w.in_flight)
          w.encoder.unacknowledged w.decoder_in_flight q v) w.streams s (record st { decoded = st.decoded + 1 })
          (record {
            acknowledged =
                (let n : st.decoded + 1 ≡ suc st.decoded = omega arith in
                rw n (omega (arith, old.acknowledged, filter_take_more is_dynamic st.decoded st.blocks)));
            fits = old.fits;
            stays_open = old.stays_open;
            quiet = old.quiet;
            blocks = old.blocks;
          })
          (λ q _. k.streams q);
    }

-- a stream at which a decoder_instruction of another is added
decoder_instruction_other : (capacity maximum : ℕ) (h : History) (encoder_stream : List EncoderInstruction)
    (unacknowledged : List UnacknowledgedBlock) (rs : List DecoderInstruction)
    (r : DecoderInstruction) (q : ℕ) (st : AbstractStream) → IsNoAck q r → IsNoCancel q r
    → KeepsStream capacity maximum h encoder_stream unacknowledged rs q st
    → KeepsStream capacity maximum h encoder_stream unacknowledged (rs ++ r ∷ []) q st
decoder_instruction_other capacity maximum h encoder_stream unacknowledged rs r q st a c k =
    record {
      acknowledged = k.acknowledged;
      fits = fits_other q rs r (length (open_of q unacknowledged)) a k.fits;
      stays_open = λ x. ap (λ (n : ℕ). drop n (open_of q unacknowledged)) (acks_other q rs r a) ∙ k.stays_open x;
      quiet = λ x. cancels_other q rs r c ∙ k.quiet x;
      blocks = k.blocks;
    }

length_drops : {X Y : Type 0} (xs : List X) (ys : List Y) (n m : ℕ) → length (drop n xs) ≡ length (drop m ys)
    → m < length ys → n < length xs
length_drops xs ys n m e h = omega (arith, length-drop n xs, length-drop m ys)

stream_acked : (capacity maximum : ℕ) (h : History) (encoder_stream : List EncoderInstruction)
    (unacknowledged : List UnacknowledgedBlock) (rs : List DecoderInstruction)
    (s : ℕ) (st : AbstractStream) → waits_for_acknowledgment st ≡ true
    → KeepsStream capacity maximum h encoder_stream unacknowledged rs s st
    → KeepsStream capacity maximum h encoder_stream unacknowledged (rs ++ Acknowledgment s ∷ []) s
    (record st { acknowledged = st.acknowledged + 1 })
stream_acked capacity maximum h encoder_stream unacknowledged rs s st t k =
    let p = and_parts (not st.cancelled) (nat_lt st.acknowledged
    (length (filter is_dynamic (take st.decoded st.blocks)))) t in
    let live : st.cancelled ≡ false = not_true st.cancelled p.0 in
    let t1 : nat_lt st.acknowledged (length (filter is_dynamic (take st.decoded st.blocks))) ≡ true = p.1 in
    let lt : st.acknowledged < length (filter is_dynamic (take st.decoded st.blocks)) = ltb-true _ _ t1 in
    let lt' : st.acknowledged < length (filter is_dynamic st.blocks) =
    omega (arith, filter_take is_dynamic st.decoded st.blocks) in
    let e = k.stays_open live in
    let few : acks_in s rs < length (open_of s unacknowledged) =
    length_drops (open_of s unacknowledged) (filter is_dynamic st.blocks) (acks_in s rs) st.acknowledged (ap length e
    ∙ length-map (drop st.acknowledged (filter is_dynamic st.blocks)) (λ (b : AbstractBlock). b.referenced)) lt' in
    record {
      acknowledged = omega arith;
      fits = fits_push s rs (length (open_of s unacknowledged)) k.fits (k.quiet live) few;
      stays_open = λ c.
          ap (λ (n : ℕ). drop n (open_of s unacknowledged)) (acks_push s rs
          ∙ (let n : suc (acks_in s rs) ≡ acks_in s rs + 1 = omega arith in n))
          ∙ sym (drop-drop 1 (acks_in s rs) (open_of s unacknowledged)) ∙ ap (drop 1) e
          ∙ drop-map (λ (b : AbstractBlock). b.referenced) 1 (drop st.acknowledged (filter is_dynamic st.blocks))
          ∙ ap (map (λ (b : AbstractBlock). b.referenced)) (drop-drop 1 st.acknowledged (filter is_dynamic st.blocks));
      quiet = λ c. cancels_other s rs (Acknowledgment s) tt ∙ k.quiet c;
      blocks = k.blocks;
    }
  where
    not_true : (b : Bool) → not b ≡ true → b ≡ false
    not_true true q = absurd (cc)
    not_true false q = refl

pub inv_acked : (capacity maximum limit : ℕ) (w : AbstractSession) (s : ℕ)
    → waits_for_acknowledgment (stream_at w.streams s) ≡ true → Invariant capacity maximum limit w
    → Invariant capacity maximum limit (record w {
      decoder_in_flight = w.decoder_in_flight ++ Acknowledgment s ∷ [];
      streams = with_stream w.streams s (record (stream_at w.streams s)
          { acknowledged = (stream_at w.streams s).acknowledged + 1 });
    })
inv_acked capacity maximum limit w s t k =
    let st = stream_at w.streams s in
    record {
      within = k.within;
      received = k.received;
      made = k.made;
      taken_leads = k.taken_leads;
      in_flight_leads = k.in_flight_leads;
      decoder = k.decoder;
      encoder = k.encoder;
      same_limit = k.same_limit;
      known_received_count = omega (
        arith,
        k.known_received_count,
        increments_append w.decoder_in_flight (Acknowledgment s ∷ []),
        increments_cons_ack s [],
        increments_nil,
      );
      blocked = k.blocked;
      streams =
          streams_update (λ (q : ℕ) (v : AbstractStream). KeepsStream capacity maximum k.made (w.taken ++ w.in_flight)
          w.encoder.unacknowledged (w.decoder_in_flight ++ Acknowledgment s ∷ []) q v) w.streams s
          (record st { acknowledged = st.acknowledged + 1 })
          (stream_acked capacity maximum k.made
          (w.taken ++ w.in_flight) w.encoder.unacknowledged w.decoder_in_flight s st t
          (k.streams s))
          (λ q d. decoder_instruction_other capacity maximum k.made
          (w.taken ++ w.in_flight) w.encoder.unacknowledged w.decoder_in_flight
          (Acknowledgment s) q (stream_at w.streams q) d tt (k.streams q));
    }
  where
    increments_nil : increment_sum [] ≡ 0
    increments_nil = increments_sum []

pub inv_cancelled : (capacity maximum limit : ℕ) (w : AbstractSession) (s : ℕ) → Invariant capacity maximum limit w
    → Invariant capacity maximum limit (record w {
      decoder_in_flight = w.decoder_in_flight ++ Cancellation s ∷ [];
      streams = with_stream w.streams s (record (stream_at w.streams s) { cancelled = true });
    })
inv_cancelled capacity maximum limit w s k =
    let st = stream_at w.streams s in
    let old = k.streams s in
    record {
      within = k.within;
      received = k.received;
      made = k.made;
      taken_leads = k.taken_leads;
      in_flight_leads = k.in_flight_leads;
      decoder = k.decoder;
      encoder = k.encoder;
      same_limit = k.same_limit;
      known_received_count = omega (
        arith,
        k.known_received_count,
        increments_append w.decoder_in_flight (Cancellation s ∷ []),
        increments_cons_cancel s [],
        increments_nil,
      );
      blocked = k.blocked;
      streams =
          streams_update (λ (q : ℕ) (v : AbstractStream). KeepsStream capacity maximum k.made (w.taken ++ w.in_flight)
          w.encoder.unacknowledged (w.decoder_in_flight ++ Cancellation s ∷ []) q v) w.streams s
          (record st { cancelled = true })
          (record {
            acknowledged = old.acknowledged;
            fits = fits_other s w.decoder_in_flight (Cancellation s)
                (length (open_of s w.encoder.unacknowledged)) tt old.fits;
            stays_open = λ c. absurd (cc);
            quiet = λ c. absurd (cc);
            blocks = old.blocks;
          })
          (λ q d. decoder_instruction_other capacity maximum k.made
          (w.taken ++ w.in_flight) w.encoder.unacknowledged w.decoder_in_flight
          (Cancellation s) q (stream_at w.streams q) tt d (k.streams q));
    }
  where
    increments_nil : increment_sum [] ≡ 0
    increments_nil = increments_sum []
