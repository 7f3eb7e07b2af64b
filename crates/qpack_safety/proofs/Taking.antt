-- The decoder takes an instruction, and reports its insertions.
use Rattle.std.proofs.Common.{ℕ, ◌+◌, ◌-◌, ◌≡◌, List, [], ◌∷◌, ◌++◌, length, Result, Ok, refl, sym, ap, ◌∙◌, subst}
use Rattle.std.proofs.Common.{arith, length-append}
use Rattle.std.proofs.lemmas.List.{append-nil, append_assoc}
use Rattle.qpack_spec.specs.Instruction.{EncoderInstruction, DecoderInstruction, Increment}
use Rattle.qpack_spec.specs.Window.{Window, window_insert_count, TableRefusal, Effect, effect, apply}
use Rattle.qpack_spec.specs.History.{History, window_of, history_after, initial_history, Leads}
use Rattle.qpack_rules.specs.Session.{increment_sum, sum_of, increments}
use Rattle.qpack_safety.specs.AbstractSession.{AbstractSession, after_take, take_next}
use Rattle.qpack_spec.proofs.Windows.{Sound, sound_grown, leads_append, window_grown, allowed, Grows, grows_one}
use Rattle.qpack_safety.proofs.OpenBlocks.{open_of}
use Rattle.qpack_safety.proofs.DecoderInstructions.{acks_in, cancels_in, AcksFit, fits_other, acks_other, cancels_other}
use Rattle.qpack_safety.proofs.DecoderInstructions.{increments_append, increments_sum}
use Rattle.qpack_safety.proofs.Invariant.{Invariant, sound_received, total_window}

-- what the next instruction does
pub record Taking (received made : History) (decoder : Window) (i : EncoderInstruction)
    (rest : List EncoderInstruction) : Type 0
  where
    pub effect_of : Effect
    pub is_effect : effect (window_of received) i ≡ Ok effect_of
    pub applies : apply decoder i ≡ Ok (window_of (history_after received effect_of))
    pub rest_leads : Leads (history_after received effect_of) rest made

pub taking : (received made : History) (decoder : Window) (i : EncoderInstruction) (rest : List EncoderInstruction)
    → Sound received
    → decoder ≡ window_of received → Leads received (i ∷ rest) made → Taking received made decoder i rest
taking received made decoder i rest s e l =
    record {
      effect_of = l.0;
      is_effect = l.1;
      applies =
          rw (e, l.1) (ap (λ (x : Window). let r : Result Window TableRefusal = Ok x in
          r) (sym (window_grown received l.0 s.in_range)));
      rest_leads = l.2;
    }

taken_known : (received : History) (e : Effect) (w : AbstractSession) → Sound received
    → Sound (history_after received e)
    → w.decoder ≡ window_of received → w.encoder.known_received_count + increment_sum w.decoder_in_flight + w.unreported
    ≡ length received.inserted
    → w.encoder.known_received_count + increment_sum w.decoder_in_flight +
    (w.unreported + (window_insert_count (window_of (history_after received e)) - window_insert_count w.decoder))
    ≡ length (history_after received e).inserted
taken_known received e w s s' d k =
    let before : window_insert_count w.decoder ≡ length received.inserted = ap window_insert_count d
    ∙ total_window received s in
    let after' : window_insert_count (window_of (history_after received e))
    ≡ length (history_after received e).inserted =
    total_window (history_after received e) s' in
    let g : Grows received (history_after received e) = grows_one received e in
    omega (arith, k, length-append received.inserted g.more, ap length g.inserts)

inv_taken : (capacity maximum limit : ℕ) (w : AbstractSession) (k : Invariant capacity maximum limit w)
    (i : EncoderInstruction)
    (rest : List EncoderInstruction) → w.in_flight ≡ i ∷ rest → (t : Taking k.received k.made w.decoder i rest)
    → Invariant capacity maximum limit (record w {
      decoder = window_of (history_after k.received t.effect_of);
      unreported = w.unreported +
          (window_insert_count (window_of (history_after k.received t.effect_of)) - window_insert_count w.decoder);
      taken =
          w.taken ++ i ∷ [];
      in_flight = rest;
    })
inv_taken capacity maximum limit w k i rest e t =
    let s : Sound k.received = sound_received capacity maximum limit w k in
    let s' : Sound (history_after k.received t.effect_of) =
    sound_grown k.received t.effect_of s (allowed (window_of k.received) i t.effect_of t.is_effect) in
    let regroup : w.taken ++ w.in_flight ≡ (w.taken ++ i ∷ []) ++ rest =
    ap (λ x. w.taken ++ x) e ∙ sym (append_assoc w.taken (i ∷ []) rest) in
    record {
      within = k.within;
      received = history_after k.received t.effect_of;
      made = k.made;
      taken_leads =
          leads_append (initial_history capacity maximum) w.taken (i ∷ []) k.received
          (history_after k.received t.effect_of) k.taken_leads
          (t.effect_of, t.is_effect, refl);
      in_flight_leads = t.rest_leads;
      decoder = refl;
      encoder = k.encoder;
      same_limit = k.same_limit;
      known_received_count = taken_known k.received t.effect_of w s s' k.decoder k.known_received_count;
      blocked = k.blocked;
      streams = λ q. rw (← regroup) (k.streams q);
    }

pub inv_takes : (capacity maximum limit : ℕ) (w : AbstractSession) (fl : List EncoderInstruction) → w.in_flight ≡ fl
    → Invariant capacity maximum limit w → Invariant capacity maximum limit (take_next w fl)
inv_takes capacity maximum limit w [] e k = k
inv_takes capacity maximum limit w (i ∷ rest) e k =
    let t : Taking k.received k.made w.decoder i rest =
    taking k.received k.made w.decoder i rest (sound_received capacity maximum limit w k) k.decoder
    (subst (λ (l : List EncoderInstruction). Leads k.received l k.made) e k.in_flight_leads) in
    subst (λ (o : Result Window TableRefusal). Invariant capacity maximum limit (after_take w i rest o)) (sym t.applies)
    (inv_taken capacity maximum limit w k i rest e t)

-- ---- the decoder reports

fits_increments : (s : ℕ) (ps : List ℕ) (rs : List DecoderInstruction) (n : ℕ) → AcksFit s rs n
    → AcksFit s (rs ++ increments ps) n
fits_increments s [] rs n h = rw append-nil h
fits_increments s (p ∷ ps) rs n h =
    subst (λ (l : List DecoderInstruction). AcksFit s l n) (append_assoc rs (Increment p ∷ []) (increments ps))
    (fits_increments s ps (rs ++ Increment p ∷ []) n (fits_other s rs (Increment p) n tt h))

acks_increments : (s : ℕ) (ps : List ℕ) (rs : List DecoderInstruction) → acks_in s (rs ++ increments ps) ≡ acks_in s rs
acks_increments s [] rs = ap (acks_in s) (append-nil rs)
acks_increments s (p ∷ ps) rs =
    ap (acks_in s) (sym (append_assoc rs (Increment p ∷ []) (increments ps)))
    ∙ acks_increments s ps (rs ++ Increment p ∷ []) ∙ acks_other s rs (Increment p) tt

cancels_increments : (s : ℕ) (ps : List ℕ) (rs : List DecoderInstruction) → cancels_in s (rs ++ increments ps)
    ≡ cancels_in s rs
cancels_increments s [] rs = ap (cancels_in s) (append-nil rs)
cancels_increments s (p ∷ ps) rs =
    ap (cancels_in s) (sym (append_assoc rs (Increment p ∷ []) (increments ps)))
    ∙ cancels_increments s ps (rs ++ Increment p ∷ []) ∙ cancels_other s rs (Increment p) tt

pub inv_reported : (capacity maximum limit : ℕ) (w : AbstractSession) (ps : List ℕ) → sum_of ps ≡ w.unreported
    → Invariant capacity maximum limit w → Invariant capacity maximum limit
    (record w { decoder_in_flight = w.decoder_in_flight ++ increments ps; unreported = 0 })
inv_reported capacity maximum limit w ps e k =
    record {
      within = k.within;
      received = k.received;
      made = k.made;
      taken_leads = k.taken_leads;
      in_flight_leads = k.in_flight_leads;
      decoder = k.decoder;
      encoder = k.encoder;
      same_limit = k.same_limit;
      known_received_count = omega
          (arith, k.known_received_count, increments_append w.decoder_in_flight (increments ps), increments_sum ps, e);
      blocked = k.blocked;
      streams = λ q. let st = k.streams q in record {
        acknowledged = st.acknowledged;
        fits = fits_increments q ps w.decoder_in_flight (length (open_of q w.encoder.unacknowledged)) st.fits;
        stays_open = λ c. rw acks_increments (st.stays_open c);
        quiet = λ c. cancels_increments q ps w.decoder_in_flight ∙ st.quiet c;
        blocks = st.blocks;
      };
    }
