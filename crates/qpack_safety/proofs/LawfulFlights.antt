-- All that two strict ends have under way is lawful to its end.
use Rattle.std.proofs.Common.{ℕ, ◌≡◌, Bool, true, false, cond, List, [], ◌∷◌, ◌++◌, Option, None, Some}
use Rattle.std.proofs.Common.{Result, Ok, Err, refl, sym, ap, ◌∙◌, subst}
use Rattle.std.specs.Prelude.{nat_eq, not}
use Rattle.std.proofs.lemmas.Bool.{cond_both}
use Rattle.qpack_spec.specs.Bytes.{◌>>=◌}
use Rattle.qpack_spec.specs.History.{Leads, initial_history, window_of}
use Rattle.qpack_spec.specs.Instruction.{EncoderInstruction, DecoderInstruction}
use Rattle.qpack_rules.specs.Session.{stream_at, oldest_undecoded, is_read, sum_of, pieces_of}
use Rattle.qpack_rules.specs.StrictInstructions.{HearingRefusal, strict_apply, hear_in_turn}
use Rattle.qpack_spec.specs.Table.{Table, empty_table, table_of, with_capacity}
use Rattle.qpack_rules.specs.Taking.{apply_in_turn}
use Rattle.qpack_spec.specs.Window.{Window, TableRefusal, apply}
use Rattle.qpack_rules.proofs.PutTables.{applied_put}
use Rattle.qpack_spec.proofs.Results.{bind_ok, ok_is}
use Rattle.qpack_rules.proofs.Taking.{applied_last}
use Rattle.qpack_safety.specs.AbstractSession.{AbstractBlock, is_dynamic, AbstractSession, abstract_start, next_reading}
use Rattle.qpack_safety.specs.AbstractSession.{waits_for_acknowledgment, after_resize, after_take, take_next}
use Rattle.qpack_safety.specs.AbstractSession.{after_hear}
use Rattle.qpack_safety.specs.AbstractSession.{hear_next, after_step, after_steps}
use Rattle.qpack_safety.specs.AbstractSession as small
use Rattle.qpack_safety.specs.LawfulFlights.{IsLawfulToItsEnd, FlightsAreLawful}
use Rattle.qpack_safety.specs.TwoEnds.{EndStep, Encode, Abandon, EncodeAlone, Resize, Take, Report, Hear, Decode}
use Rattle.qpack_safety.specs.TwoEnds.{Cancel}
use Rattle.qpack_safety.specs.TwoEnds.{Forget, decode_steps, after_end_step, after_end_steps}
use Rattle.qpack_safety.proofs.Hearing.{inv_hears}
use Rattle.qpack_safety.proofs.Invariant.{Invariant, sound_received}
use Rattle.qpack_safety.proofs.StrictEvents.{strictly_hears}
use Rattle.qpack_safety.proofs.StrictSession.{Strict}
use Rattle.qpack_safety.proofs.Taking.{taking, inv_takes}
use Rattle.qpack_safety.proofs.TwoEnds.{Holds, holds_started, holds_step, strictly_takes, strict_takes, strict_hearing}

-- ---- one instruction

-- what the next instruction makes of the decoder's table
pub applied_next : (capacity maximum limit : ℕ) (w : AbstractSession) (i : EncoderInstruction)
    (rest : List EncoderInstruction) → w.in_flight ≡ i ∷ rest → Invariant capacity maximum limit w → Strict w
    → (new : Window) × (apply w.decoder i ≡ Ok new) × (strict_apply (table_of w.decoder) i ≡ Ok (table_of new))
applied_next capacity maximum limit w i rest e k t =
    let made = taking k.received k.made w.decoder i rest (sound_received capacity maximum limit w k) k.decoder
    (subst (λ (l : List EncoderInstruction). Leads k.received l k.made) e k.in_flight_leads) in (
      _,
      made.applies,
      strictly_takes w i rest e t ∙ applied_put w.decoder i
          ∙ ap (λ (r : Result Window TableRefusal). r >>= λ x. Ok (table_of x)) made.applies,
    )

-- ---- what is under way

encoder_flight : (capacity maximum limit : ℕ) (is : List EncoderInstruction) (w : AbstractSession)
    → w.in_flight ≡ is → Invariant capacity maximum limit w → Strict w
    → (last : Table) × (apply_in_turn strict_apply (table_of w.decoder) is ≡ Ok last)
encoder_flight capacity maximum limit [] w e k t = (table_of w.decoder, refl)
encoder_flight capacity maximum limit (i ∷ rest) w e k t =
    let one = applied_next capacity maximum limit w i rest e k t in
    let behind : AbstractSession = after_take w i rest (Ok one.0) in
    let is : take_next w (i ∷ rest) ≡ behind =
    ap (λ (r : Result Window TableRefusal). after_take w i rest r) one.1 in
    let more = encoder_flight capacity maximum limit rest behind refl
    (subst (Invariant capacity maximum limit) is (inv_takes capacity maximum limit w (i ∷ rest) e k))
    (subst Strict is (strict_takes capacity maximum limit w (i ∷ rest) e k t)) in (
      more.0,
      ap (λ (r : Result Table TableRefusal). r >>= λ u. apply_in_turn strict_apply u rest) one.2 ∙ more.1,
    )

decoder_flight : (capacity maximum limit : ℕ) (rs : List DecoderInstruction) (w : AbstractSession)
    → w.decoder_in_flight ≡ rs → Invariant capacity maximum limit w → Strict w
    → (last : Table) × (hear_in_turn w.encoder rs ≡ Ok last)
decoder_flight capacity maximum limit [] w e k t = (w.encoder, refl)
decoder_flight capacity maximum limit (r ∷ rest) w e k t =
    let one = strictly_hears capacity maximum limit w r rest e k t in
    let behind : AbstractSession = after_hear w rest (Ok one.0) in
    let is : hear_next w (r ∷ rest) ≡ behind =
    ap (λ (u : Result Table TableRefusal). after_hear w rest u) one.2 in
    let more = decoder_flight capacity maximum limit rest behind refl
    (subst (Invariant capacity maximum limit) is (inv_hears capacity maximum limit w (r ∷ rest) e k))
    (subst Strict is (strict_hearing capacity maximum limit w (r ∷ rest) e k t)) in (
      more.0,
      ap (λ (u : Result Table HearingRefusal). u >>= λ x. hear_in_turn x rest) one.1 ∙ more.1,
    )

-- ---- what was taken

-- what was taken, from this table on
abbrev HasTaken : Table → AbstractSession → Type 0
HasTaken start w = apply_in_turn strict_apply start w.taken ≡ Ok (table_of w.decoder)

taken_next : (capacity maximum limit : ℕ) (start : Table) (w : AbstractSession) (is : List EncoderInstruction)
    → w.in_flight ≡ is → Invariant capacity maximum limit w → Strict w → HasTaken start w
    → HasTaken start (take_next w is)
taken_next capacity maximum limit start w [] e k t h = h
taken_next capacity maximum limit start w (i ∷ rest) e k t h =
    let one = applied_next capacity maximum limit w i rest e k t in
    subst (λ (r : Result Window TableRefusal). HasTaken start (after_take w i rest r)) (sym one.1)
    (applied_last strict_apply w.taken i start (table_of w.decoder) (table_of one.0) h one.2)

resized_taken : (start : Table) (w : AbstractSession) (n : ℕ) (r : Result Table TableRefusal) → HasTaken start w
    → HasTaken start (after_resize w n r)
resized_taken start w n (Ok t) h = h
resized_taken start w n (Err e) h = h

heard_taken : (start : Table) (w : AbstractSession) (rest : List DecoderInstruction) (r : Result Table TableRefusal)
    → HasTaken start w → HasTaken start (after_hear w rest r)
heard_taken start w rest (Ok t) h = h
heard_taken start w rest (Err e) h = h

hearing_taken : (start : Table) (w : AbstractSession) (rs : List DecoderInstruction) → HasTaken start w
    → HasTaken start (hear_next w rs)
hearing_taken start w [] h = h
hearing_taken start w (r ∷ rest) h = heard_taken start w rest _ h

reported_taken : (start : Table) (w : AbstractSession) (ps : List ℕ) → HasTaken start w
    → HasTaken start (after_step w (small.Report ps))
reported_taken start w ps h =
    cond_both (nat_eq (sum_of ps) w.unreported) _ w (HasTaken start) (λ _. h) (λ _. h)

decoded_taken : (start : Table) (w : AbstractSession) (s : ℕ) → HasTaken start w
    → HasTaken start (after_step w (small.Decode s))
decoded_taken start w s h = cond_both (is_read (next_reading w s)) _ w (HasTaken start) (λ _. h) (λ _. h)

acknowledged_taken : (start : Table) (w : AbstractSession) (s : ℕ) → HasTaken start w
    → HasTaken start (after_step w (small.Acknowledge s))
acknowledged_taken start w s h =
    cond_both (waits_for_acknowledgment (stream_at w.streams s)) _ w (HasTaken start) (λ _. h) (λ _. h)

decoding_taken : (start : Table) (w : AbstractSession) (s : ℕ) (o : Option AbstractBlock) → HasTaken start w
    → HasTaken start (after_steps (decode_steps w s o) w)
decoding_taken start w s None h = h
decoding_taken start w s (Some b) h = both (is_read (next_reading w s)) (is_dynamic b)
  where
    reported : AbstractSession
    reported = after_step w (small.Report (pieces_of w.unreported))

    both : (r d : Bool)
        → HasTaken start (after_steps (cond (not r) [] (cond d
        (small.Report (pieces_of w.unreported) ∷ small.Decode s ∷ small.Acknowledge s ∷ []) (small.Decode s ∷ []))) w)
    both true true =
        acknowledged_taken start (after_step reported (small.Decode s)) s
        (decoded_taken start reported s (reported_taken start w (pieces_of w.unreported) h))
    both true false = decoded_taken start w s h
    both false d = h

step_taken : (capacity maximum limit : ℕ) (start : Table) (w : AbstractSession) (e : EndStep)
    → Holds capacity maximum limit w → HasTaken start w → HasTaken start (after_end_step w e)
step_taken capacity maximum limit start w (Encode s ls cs) k h = h
step_taken capacity maximum limit start w (Abandon ls cs) k h = h
step_taken capacity maximum limit start w (EncodeAlone s ls) k h = h
step_taken capacity maximum limit start w (Resize n) k h = resized_taken start w n (with_capacity w.encoder n) h
step_taken capacity maximum limit start w Take k h =
    taken_next capacity maximum limit start w w.in_flight refl k.invariant k.strict h
step_taken capacity maximum limit start w Report k h = reported_taken start w (pieces_of w.unreported) h
step_taken capacity maximum limit start w Hear k h = hearing_taken start w w.decoder_in_flight h
step_taken capacity maximum limit start w (Decode s) k h =
    decoding_taken start w s (oldest_undecoded (stream_at w.streams s)) h
step_taken capacity maximum limit start w (Cancel s) k h =
    cond_both (stream_at w.streams s).cancelled w _ (HasTaken start) (λ _. h) (λ _. h)
step_taken capacity maximum limit start w (Forget s) k h = h

-- ---- whatever the ends did

-- the table behind some instructions, and others behind them
applied_both : (first now last : Table) (xs ys : List EncoderInstruction) → apply_in_turn strict_apply first xs ≡ Ok now
    → apply_in_turn strict_apply now ys ≡ Ok last → apply_in_turn strict_apply first (xs ++ ys) ≡ Ok last
applied_both first now last [] ys h k =
    subst (λ (t : Table). apply_in_turn strict_apply t ys ≡ Ok last) (sym (ok_is first now h)) k
applied_both first now last (x ∷ xs) ys h k =
    let one = bind_ok (strict_apply first x) (λ u. apply_in_turn strict_apply u xs) now h in
    ap (λ (r : Result Table TableRefusal). r >>= λ u. apply_in_turn strict_apply u (xs ++ ys)) one.1
    ∙ applied_both one.0 now last xs ys one.2 k

lawful_behind : (capacity maximum limit : ℕ) (es : List EndStep) (w : AbstractSession)
    → Holds capacity maximum limit w → HasTaken (empty_table capacity (Some maximum) 0) w
    → IsLawfulToItsEnd capacity maximum (after_end_steps es w)
lawful_behind capacity maximum limit [] w k h =
    let encoder = encoder_flight capacity maximum limit w.in_flight w refl k.invariant k.strict in
    let decoder = decoder_flight capacity maximum limit w.decoder_in_flight w refl k.invariant k.strict in
    record {
      taken = h;
      last = encoder.0;
      encoder_stream =
          applied_both (empty_table capacity (Some maximum) 0) (table_of w.decoder) encoder.0 w.taken w.in_flight h
          encoder.1;
      encoder = decoder.0;
      decoder_stream = decoder.1;
    }
lawful_behind capacity maximum limit (e ∷ es) w k h =
    lawful_behind capacity maximum limit es (after_end_step w e) (holds_step capacity maximum limit e w k)
    (step_taken capacity maximum limit (empty_table capacity (Some maximum) 0) w e k h)

-- an empty decoder's table
abbrev table_ok : Table → Result Table TableRefusal
table_ok t = Ok t

empty_put : (capacity maximum : ℕ) → table_ok (empty_table capacity (Some maximum) 0)
    ≡ table_ok (table_of (window_of (initial_history capacity maximum)))
unfolding table_of window_of
empty_put capacity maximum = refl

pub flights_lawful : FlightsAreLawful
flights_lawful capacity maximum limit within steps =
    lawful_behind capacity maximum limit steps (abstract_start capacity maximum limit)
    (holds_started capacity maximum limit within) (empty_put capacity maximum)
