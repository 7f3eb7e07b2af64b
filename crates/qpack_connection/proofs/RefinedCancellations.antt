-- A stream that is cancelled on a connection in bytes is one that the session of values cancels.
use Rattle.std.proofs.Common.{◌≡◌, ◌<◌, ◌^◌, ◌+◌, ℕ, Bool, true, false, cond, List, [], ◌∷◌, ◌++◌}
use Rattle.std.proofs.Common.{Some, Ok, refl, sym, ap, subst, ◌∙◌, arith, length-append}
use Rattle.std.specs.List.{AllByRecursion}
use Rattle.std.specs.Prelude.{nat_eq}
use Rattle.std.proofs.lemmas.List.{append_assoc, append-nil, take-append-le}
use Rattle.qpack_spec.specs.Instruction.{DecoderInstruction, Cancellation, SpellsDecoderInstruction}
use Rattle.qpack_spec.specs.Instruction.{written_decoder_instruction, written_decoder_instructions}
use Rattle.qpack_rules.specs.Session.{RequestStream, stream_at, with_stream}
use Rattle.qpack_spec.specs.Stream.{SpellsAll}
use Rattle.qpack_spec.specs.Table.{Table, empty_table, insert_count}
use Rattle.qpack_spec.specs.WrittenLaws.{IsWritableDecoderInstruction}
use Rattle.qpack_spec.proofs.Cuttings.{joined_append}
use Rattle.qpack_safety.specs.AbstractSession.{AbstractStream, AbstractSession, abstract_start}
use Rattle.qpack_safety.specs.TwoEnds.{EndStep, Cancel, Forget, after_end_steps}
use Rattle.qpack_safety.proofs.Shown.{decoder_instructions_joined}
use Rattle.qpack_connection.specs.Connections.{SentSection, Connection, with_decoder, with_cancelled}
use Rattle.qpack_decoding.specs.Decoders.{DecodingEnd}
use Rattle.qpack_encoding.specs.Hearing as hearing
use Rattle.qpack_decoding.specs.Receiving as receiving
use Rattle.qpack_connection.specs.RefinedConnections.{received_of, RefinesStream, RefinesSession}
use Rattle.qpack_connection.specs.RefinedConnections.{CancellationsAreRefined}
use Rattle.qpack_safety.proofs.TwoEnds.{Holds, holds_started, holds_behind}
use Rattle.qpack_connection.proofs.RefinedConnections.{after_more}
use Rattle.qpack_connection.proofs.ThinnedSessions.{IsUnderWay, cancellation_under_way}

-- the decoder wrote instructions, and all is sent; its table and what waits are as before. What is under way is that of
-- the session, without increments that an acknowledgment reports
pub written_back : (maximum : ℕ) (c : Connection) (w : AbstractSession) (d : DecodingEnd)
    (rs flight : List DecoderInstruction) (n : ℕ) (ps : List (ℕ × RequestStream SentSection))
    (qs : List (ℕ × AbstractStream)) → (k : RefinesSession maximum c w) → d.table ≡ c.decoder.table
    → d.stream ≡ c.decoder.stream → d.reported + n ≡ insert_count d.table → d.unsent ≡ written_decoder_instructions rs
    → AllByRecursion IsWritableDecoderInstruction rs → IsUnderWay w (k.under_way ++ rs) flight
    → ((s : ℕ) → RefinesStream (stream_at ps s) (stream_at qs s))
    → RefinesSession maximum (record (with_decoder d c) { streams = ps })
    (record w { decoder_in_flight = flight; unreported = n; streams = qs })
written_back maximum c w d rs flight n ps qs k table stream told unsent are thins streams =
    let same : received_of (record c.decoder_stream { written = c.decoder_stream.written ++ d.unsent })
    ≡ received_of c.decoder_stream =
    take-append-le c.decoder_stream.received c.decoder_stream.written d.unsent k.decoder_stream_order in
    let received = subst (λ (t : Table). (r : receiving.Receives (empty_table 0 (Some maximum) 0) t
    (received_of c.encoder_stream) d.stream) × (r.0.lines ≡ w.taken)) (sym table)
    (subst (λ (s : receiving.StreamView). (r : receiving.Receives (empty_table 0 (Some maximum) 0) c.decoder.table
    (received_of c.encoder_stream) s) × (r.0.lines ≡ w.taken)) (sym stream) (k.received, k.taken_are)) in
    record {
      encoder_is = k.encoder_is;
      decoder_is = table ∙ k.decoder_is;
      reported_is = told;
      encoder_sent = k.encoder_sent;
      decoder_sent = refl;
      encoder_stream = k.encoder_stream;
      encoder_stream_order = k.encoder_stream_order;
      received = received.0;
      taken_are = received.1;
      heard = k.heard;
      under_way = k.under_way ++ rs;
      decoder_stream =
          subst (λ (b : List ℕ). SpellsAll SpellsDecoderInstruction (c.decoder_stream.written ++ b)
          (k.heard ++ (k.under_way ++ rs))) (sym unsent)
          (subst (SpellsAll SpellsDecoderInstruction (c.decoder_stream.written ++ written_decoder_instructions rs))
          (append_assoc k.heard k.under_way rs)
          (joined_append SpellsDecoderInstruction c.decoder_stream.written (written_decoder_instructions rs)
          (k.heard ++ k.under_way) rs k.decoder_stream (decoder_instructions_joined rs are)));
      thins = thins;
      decoder_stream_order = omega (
        arith,
        k.decoder_stream_order,
        length-append c.decoder_stream.written d.unsent,
      );
      hears = subst (λ (b : List ℕ). hearing.Receives k.heard b c.encoder.stream) (sym same) k.hears;
      streams = streams;
    }

-- or none
pub nothing_back : (maximum : ℕ) (c : Connection) (w : AbstractSession) (d : DecodingEnd)
    (ps : List (ℕ × RequestStream SentSection)) (qs : List (ℕ × AbstractStream)) → RefinesSession maximum c w
    → d.table ≡ c.decoder.table → d.stream ≡ c.decoder.stream → d.reported ≡ c.decoder.reported → d.unsent ≡ []
    → ((s : ℕ) → RefinesStream (stream_at ps s) (stream_at qs s))
    → RefinesSession maximum (record (with_decoder d c) { streams = ps }) (record w { streams = qs })
unfolding written_decoder_instructions
nothing_back maximum c w d ps qs k table stream reported unsent streams =
    written_back maximum c w d [] w.decoder_in_flight w.unreported ps qs k table stream
    (omega (arith, reported, ap insert_count table, k.reported_is)) unsent tt
    (subst (λ (is : List DecoderInstruction). IsUnderWay w is w.decoder_in_flight) (sym (append-nil k.under_way)) k.thins)
    streams

-- a stream is cancelled at both
both_cancelled : (s : ℕ) (ps : List (ℕ × RequestStream SentSection)) (qs : List (ℕ × AbstractStream))
    → ((q : ℕ) → RefinesStream (stream_at ps q) (stream_at qs q)) → (q : ℕ)
    → RefinesStream (stream_at (with_stream ps s (record (stream_at ps s) { cancelled = true })) q)
    (stream_at (with_stream qs s (record (stream_at qs s) { cancelled = true })) q)
both_cancelled s ps qs all q = both (nat_eq s q)
  where
    both : (e : Bool) → RefinesStream (cond e (record (stream_at ps s) { cancelled = true }) (stream_at ps q))
        (cond e (record (stream_at qs s) { cancelled = true }) (stream_at qs q))
    both true =
        let old = all s in
        record {
          sections = old.sections;
          decoded_is = old.decoded_is;
          acknowledged_is = old.acknowledged_is;
          cancelled_is = refl;
        }
    both false = all q

-- what is sent of a cancellation
sent_of : (b : Bool) (c : Connection) (s : ℕ) → c.decoder.unsent ≡ []
    → cond b c.decoder.unsent (c.decoder.unsent ++ written_decoder_instruction (Cancellation s))
    ≡ written_decoder_instructions (cond b [] (Cancellation s ∷ []))
unfolding written_decoder_instructions
sent_of true c s none = none
sent_of false c s none =
    ap (λ (x : List ℕ). x ++ written_decoder_instruction (Cancellation s)) none
    ∙ sym (append-nil (written_decoder_instruction (Cancellation s)))

pub cancellations_refined : CancellationsAreRefined
unfolding written_decoder_instructions
cancellations_refined maximum limit c new steps s r call = both (nat_eq c.decoder.settings.max_capacity 0) refl
  where
    start : AbstractSession
    start = abstract_start 0 maximum limit

    w : AbstractSession
    w = after_end_steps steps start

    holds : Holds 0 maximum limit w
    holds = holds_behind 0 maximum limit steps start (holds_started 0 maximum limit (omega arith))

    streams : (q : ℕ) → RefinesStream
        (stream_at (with_stream c.streams s (record (stream_at c.streams s) { cancelled = true })) q)
        (stream_at (with_stream w.streams s (record (stream_at w.streams s) { cancelled = true })) q)
    streams = both_cancelled s c.streams w.streams r.streams

    told : call.decoder.reported + w.unreported ≡ insert_count call.decoder.table
    told = subst (λ (d : DecodingEnd). d.reported + w.unreported ≡ insert_count d.table) (sym call.call.1) r.reported_is

    unsent : (b : Bool) → nat_eq c.decoder.settings.max_capacity 0 ≡ b
        → call.decoder.unsent ≡ written_decoder_instructions (cond b [] (Cancellation s ∷ []))
    unsent b is =
        ap (λ (d : DecodingEnd). d.unsent) call.call.1
        ∙ ap (λ (x : Bool). cond x c.decoder.unsent
        (c.decoder.unsent ++ written_decoder_instruction (Cancellation s))) is
        ∙ sent_of b c s r.decoder_sent

    live : (stream_at w.streams s).cancelled ≡ false
    live = sym (r.streams s).cancelled_is ∙ call.live

    both : (b : Bool) → nat_eq c.decoder.settings.max_capacity 0 ≡ b
        → (more : List EndStep) × RefinesSession maximum new (after_end_steps (steps ++ more) start)
    both true is = (
      Forget s ∷ [],
      subst (λ (x : AbstractSession). RefinesSession maximum new x) (sym (after_more steps (Forget s ∷ []) start))
          (subst (λ (x : Connection). RefinesSession maximum x (after_end_steps (Forget s ∷ []) w)) (sym call.new_is)
          (nothing_back maximum c w call.decoder _ _ r (ap (λ (d : DecodingEnd). d.table) call.call.1)
          (ap (λ (d : DecodingEnd). d.stream) call.call.1) (ap (λ (d : DecodingEnd). d.reported) call.call.1)
          (unsent true is) streams)),
    )
    both false is = (
      Cancel s ∷ [],
      subst (λ (x : AbstractSession). RefinesSession maximum new x) (sym (after_more steps (Cancel s ∷ []) start))
          (subst (λ (x : Connection). RefinesSession maximum x (after_end_steps (Cancel s ∷ []) w)) (sym call.new_is)
          (subst (λ (x : Bool). RefinesSession maximum (with_cancelled s (Ok tt) (with_decoder call.decoder c))
          (cond x w (record w {
            decoder_in_flight = w.decoder_in_flight ++ Cancellation s ∷ [];
            streams = with_stream w.streams s (record (stream_at w.streams s) { cancelled = true });
          }))) (sym live)
          (written_back maximum c w call.decoder (Cancellation s ∷ []) (w.decoder_in_flight ++ Cancellation s ∷ [])
          w.unreported _ _ r (ap (λ (d : DecodingEnd). d.table) call.call.1)
          (ap (λ (d : DecodingEnd). d.stream) call.call.1) told (unsent false is)
          (small call.call.0.1, tt) (cancellation_under_way maximum limit w r.under_way s holds r.thins) streams))),
    )
      where
        small : s < 2 ^ 62 → s < 2 ^ 63
        small h = omega (arith, h)
