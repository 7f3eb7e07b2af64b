-- What an end makes of some instructions in turn is what a session makes of as many steps.
use Rattle.std.proofs.Common.{ℕ, ◌+◌, ◌≡◌, List, [], ◌∷◌, ◌++◌, Result, Ok, refl, sym, ap, ◌∙◌, subst}
use Rattle.std.proofs.lemmas.List.{append-nil, append_assoc}
use Rattle.qpack_spec.specs.Bytes.{◌>>=◌}
use Rattle.qpack_spec.specs.Instruction.{EncoderInstruction, DecoderInstruction}
use Rattle.qpack_rules.specs.Session.{increment_sum}
use Rattle.qpack_rules.specs.StrictInstructions.{HearingRefusal, strict_apply, hear_in_turn}
use Rattle.qpack_spec.specs.Table.{Table, table_of}
use Rattle.qpack_rules.specs.Taking.{apply_in_turn}
use Rattle.qpack_spec.specs.Window.{Window, TableRefusal, window_insert_count}
use Rattle.qpack_spec.proofs.Results.{ok_is}
use Rattle.qpack_safety.specs.AbstractSession.{AbstractSession, after_take, take_next, after_hear, hear_next}
use Rattle.qpack_safety.specs.TwoEnds.{EndStep, Take, Hear, after_end_step, after_end_steps}
use Rattle.qpack_safety.proofs.Invariant.{Invariant, sound_received, total_window}
use Rattle.qpack_safety.proofs.LawfulFlights.{applied_next}
use Rattle.qpack_safety.proofs.StrictEvents.{strictly_hears}
use Rattle.qpack_safety.proofs.TwoEnds.{Holds, holds_step}

-- ---- the encoder hears

pub heard_many : (capacity maximum limit : ℕ) (rs still : List DecoderInstruction) (w : AbstractSession) (u : Table)
    → w.decoder_in_flight ≡ rs ++ still → Holds capacity maximum limit w → hear_in_turn w.encoder rs ≡ Ok u
    → (steps : List EndStep) × (after_end_steps steps w ≡ record w { encoder = u; decoder_in_flight = still })
heard_many capacity maximum limit [] still w u e h heard =
    let same = ok_is w.encoder u heard in
    ([], λ i. record w { encoder = same i; decoder_in_flight = e i })
heard_many capacity maximum limit (r ∷ rs) still w u e h heard =
    let one = strictly_hears capacity maximum limit w r (rs ++ still) e h.invariant h.strict in
    let next : AbstractSession = record w { encoder = one.0; decoder_in_flight = rs ++ still } in
    let is : after_end_step w Hear ≡ next =
    ap (hear_next w) e ∙ ap (λ (x : Result Table TableRefusal). after_hear w (rs ++ still) x) one.2 in
    let rest = heard_many capacity maximum limit rs still next u refl
    (subst (Holds capacity maximum limit) is (holds_step capacity maximum limit Hear w h))
    (ap (λ (x : Result Table HearingRefusal). x >>= λ v. hear_in_turn v rs) (sym one.1) ∙ heard) in
    (Hear ∷ rest.0, ap (after_end_steps rest.0) is ∙ rest.1)

-- ---- the decoder takes

-- the session behind some instructions that the decoder took
abbrev pub after_taken : AbstractSession → List EncoderInstruction → List EncoderInstruction → Window → ℕ
    → AbstractSession
after_taken w is still d many =
    record w { decoder = d; unreported = many; taken = w.taken ++ is; in_flight = still }

pub taken_many : (capacity maximum limit : ℕ) (is still : List EncoderInstruction) (w : AbstractSession) (t : Table)
    → w.in_flight ≡ is ++ still → Holds capacity maximum limit w
    → apply_in_turn strict_apply (table_of w.decoder) is ≡ Ok t
    → (steps : List EndStep) × (d : Window) × (many : ℕ) × (table_of d ≡ t)
    × (after_end_steps steps w ≡ after_taken w is still d many)
taken_many capacity maximum limit [] still w t e h applied =
    let none = sym (append-nil w.taken) in (
      [],
      w.decoder,
      w.unreported,
      ok_is (table_of w.decoder) t applied,
      λ i. record w { taken = none i; in_flight = e i },
    )
taken_many capacity maximum limit (i ∷ is) still w t e h applied =
    let one = applied_next capacity maximum limit w i (is ++ still) e h.invariant h.strict in
    let next : AbstractSession = after_take w i (is ++ still) (Ok one.0) in
    let same : after_end_step w Take ≡ next =
    ap (take_next w) e ∙ ap (λ (x : Result Window TableRefusal). after_take w i (is ++ still) x) one.1 in
    let rest = taken_many capacity maximum limit is still next t refl
    (subst (Holds capacity maximum limit) same (holds_step capacity maximum limit Take w h))
    (ap (λ (x : Result Table TableRefusal). x >>= λ v. apply_in_turn strict_apply v is) (sym one.2) ∙ applied) in
    let all = append_assoc w.taken (i ∷ []) is in (
      Take ∷ rest.0,
      rest.1,
      rest.2,
      rest.3,
      ap (after_end_steps rest.0) same ∙ rest.4
          ∙ (λ j. record w { decoder = rest.1; unreported = rest.2; taken = all j; in_flight = still }),
    )

-- what the decoder did not report, beside what the encoder knows or is told
pub told_and_not : (capacity maximum limit : ℕ) (w : AbstractSession) → Invariant capacity maximum limit w
    → w.encoder.known_received_count + increment_sum w.decoder_in_flight + w.unreported ≡ window_insert_count w.decoder
told_and_not capacity maximum limit w k =
    k.known_received_count
    ∙ sym (ap window_insert_count k.decoder ∙ total_window k.received (sound_received capacity maximum limit w k))
