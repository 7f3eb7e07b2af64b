-- What the session theorem says of the answers of the code.
use Rattle.std.proofs.Common.{◌≤◌, ◌≡◌, ℕ, List, [], ◌∷◌, ◌++◌, Ok, Err, refl, subst}
use Rattle.std.specs.List.{AllByRecursion}
use Rattle.qpack_rules.specs.Session as spec
use Rattle.qpack_rules.specs.Session.{Session, Run, Step, initial_session}
use Rattle.qpack_spec.specs.Table.{insert_count}
use Rattle.qpack_safety.proofs.FourParts.{sessions_safe}
use Rattle.qpack_safety.specs.SessionSafety.{IsSafe, DecodeAnswer, is_skipped, wants_memory, gives_fields, waits_for}
use Rattle.h3_qpack.proofs.Sessions.{run_more}
use Rattle.h3_qpack.specs.SessionAnswers.{IsUnrefused, IsExact, IsExactBehind, AreExact, WaitsFor}
use Rattle.h3_qpack.specs.SessionRuns.{AreAnswered}
use Rattle.h3_qpack.specs.Sessions.{SessionView, IsReached, Answers, Follows, TellsUndecoded}
use Rattle.qpack_codec.specs.Stateless.{fields_in}
use Rattle.qpack_codec.specs.declared.error.DecoderError.{DecoderError}
use Rattle.qpack_codec.specs.declared.error.DecoderError.TheVariants as decoder
use Rattle.h3_qpack.specs.declared.session.Event.{Event}
use Rattle.h3_qpack.specs.declared.session.Outcome.{Outcome}
use Rattle.h3_qpack.specs.declared.session.Outcome.TheVariants as outcome

module _ (capacity maximum limit : ℕ) (events : List (spec.Event × spec.Outcome)) (v : Session)
    (safe : IsSafe capacity maximum limit events v) (e : spec.Event) (answer : spec.Outcome) (next : Session)
    (step : Step v e answer next) where
  refused_not : (fault : spec.StreamFault) → answer ≡ spec.Refused fault → ⊥
  refused_not fault is =
      safe.refuses.no_refusal e fault next (subst (λ (o : spec.Outcome). Step v e o next) is step)

  -- no stream is refused but for memory
  unrefused : (r : Outcome) → Answers r answer → IsUnrefused r
  unrefused (outcome.Delivered (Ok total)) h = tt
  unrefused (outcome.Delivered (Err decoder.Memory)) h = refl
  unrefused (outcome.Delivered (Err e)) h = absurd (refused_not h.0 h.1)
  unrefused (outcome.Heard (Ok done)) h = tt
  unrefused (outcome.Heard (Err e)) h = refused_not h.0 h.1
  unrefused r h = tt

-- why a decode has no fields
waits_so : (events : List (spec.Event × spec.Outcome)) (v : Session) (s : ℕ) (e : DecoderError) (answer : spec.Outcome)
    → TellsUndecoded e answer → DecodeAnswer events v s answer → WaitsFor events s (insert_count v.decoder) e
waits_so events v s e answer tells (is_skipped reason skips is) =
    absurd (subst (λ (o : spec.Outcome). TellsUndecoded e o) is tells)
waits_so events v s e answer tells (wants_memory is) =
    absurd (subst (λ (o : spec.Outcome). TellsUndecoded e o) is tells)
waits_so events v s e answer tells (gives_fields fields size is_dynamic is) =
    absurd (subst (λ (o : spec.Outcome). TellsUndecoded e o) is tells)
waits_so events v s e answer tells (waits_for encode next exceeds is) =
    record {
      encode = encode;
      is_next = next;
      exceeds = exceeds;
      tells = subst (λ (o : spec.Outcome). TellsUndecoded e o) is tells;
    }

-- a decode is exact
exact_decode : (capacity maximum limit : ℕ) (events : List (spec.Event × spec.Outcome)) (v : Session)
    → IsSafe capacity maximum limit events v → (s : ℕ) (answer : spec.Outcome) (next : Session)
    → Step v (spec.Decode s) answer next
    → (r : Outcome) → Answers r answer → IsExact events v (spec.Decode s) r
exact_decode capacity maximum limit events v safe s answer next step (outcome.Decoded (Ok d)) h =
    safe.decodes.answers s (fields_in d.fields.items) d.mem_size d.dyn_ref next
    (subst (λ (o : spec.Outcome). Step v (spec.Decode s) o next) h step)
exact_decode capacity maximum limit events v safe s answer next step (outcome.Decoded (Err decoder.Memory)) h = tt
exact_decode capacity maximum limit events v safe s answer next step (outcome.Decoded (Err e)) h =
    waits_so events v s e answer h (safe.waits.answers s answer next step)
exact_decode capacity maximum limit events v safe s answer next step r h = tt

exact_event : (capacity maximum limit : ℕ) (events : List (spec.Event × spec.Outcome)) (v : Session)
    → IsSafe capacity maximum limit events v → (e : spec.Event) (answer : spec.Outcome) (next : Session)
    → Step v e answer next
    → (r : Outcome) → Answers r answer → IsExact events v e r
exact_event capacity maximum limit events v safe (spec.Decode s) answer next step r h =
    exact_decode capacity maximum limit events v safe s answer next step r h
exact_event capacity maximum limit events v safe e answer next step r h = tt

-- ---- of a step

pub unrefused_step : (old new : SessionView) (e : spec.Event) (r : Outcome) → IsReached old → Follows old new e r
    → IsUnrefused r
unrefused_step old new e r at follows =
    let goes = follows at.session at.reaches.shows in
    unrefused at.capacity at.maximum at.limit at.events at.session
    (sessions_safe at.capacity at.maximum at.limit at.reaches.within at.events at.session at.reaches.run) e goes.answer
    goes.next goes.passes.goes r
    goes.answers

pub exact_step : (old new : SessionView) (e : spec.Event) (r : Outcome) → Follows old new e r → IsExactBehind old e r
exact_step old new e r follows capacity maximum limit events v reaches =
    let goes = follows v reaches.shows in
    exact_event capacity maximum limit events v
    (sessions_safe capacity maximum limit reaches.within events v reaches.run) e goes.answer goes.next
    goes.passes.goes r goes.answers

-- ---- of a run

module _ (capacity maximum limit : ℕ) (within : capacity ≤ maximum) where
  all_unrefused : (done : List (spec.Event × spec.Outcome)) (v w : Session) (events : List Event)
      (outcomes : List Outcome) (steps : List (spec.Event × spec.Outcome))
      → Run (initial_session capacity maximum limit) done v
      → Run v steps w → AreAnswered events outcomes steps → AllByRecursion IsUnrefused outcomes
  all_unrefused done v w [] [] [] start run h = tt
  all_unrefused done v w (e ∷ es) (o ∷ os) (step ∷ steps) start run h = (
    unrefused capacity maximum limit done v
        (sessions_safe capacity maximum limit within done v start) step.0 step.1 run.0 run.1.goes o h.2,
    all_unrefused (done ++ step ∷ []) run.0 w es os steps
        (run_more (initial_session capacity maximum limit) v run.0 done step.0 step.1 start run.1) run.2 h.3,
  )
  all_unrefused done v w [] [] (step ∷ steps) start run h = absurd h
  all_unrefused done v w [] (o ∷ os) [] start run h = absurd h
  all_unrefused done v w [] (o ∷ os) (step ∷ steps) start run h = absurd h
  all_unrefused done v w (e ∷ es) [] [] start run h = absurd h
  all_unrefused done v w (e ∷ es) [] (step ∷ steps) start run h = absurd h
  all_unrefused done v w (e ∷ es) (o ∷ os) [] start run h = absurd h

  pub run_unrefused : (w : Session) (events : List Event) (outcomes : List Outcome)
      (steps : List (spec.Event × spec.Outcome)) → Run (initial_session capacity maximum limit) steps w
      → AreAnswered events outcomes steps → AllByRecursion IsUnrefused outcomes
  run_unrefused w events outcomes steps run h =
      all_unrefused [] (initial_session capacity maximum limit) w events outcomes steps refl run h

  all_exact : (done : List (spec.Event × spec.Outcome)) (v w : Session) (events : List Event)
      (outcomes : List Outcome) (steps : List (spec.Event × spec.Outcome))
      → Run (initial_session capacity maximum limit) done v
      → Run v steps w → AreAnswered events outcomes steps → AreExact capacity maximum limit done steps outcomes
  all_exact done v w [] [] [] start run h = tt
  all_exact done v w (e ∷ es) (o ∷ os) (step ∷ steps) start run h = (
    (
      v,
      start,
      exact_event capacity maximum limit done v
          (sessions_safe capacity maximum limit within done v start) step.0 step.1 run.0
          run.1.goes o h.2,
    ),
    all_exact (done ++ step ∷ []) run.0 w es os steps
        (run_more (initial_session capacity maximum limit) v run.0 done step.0 step.1 start run.1) run.2 h.3,
  )
  all_exact done v w [] [] (step ∷ steps) start run h = absurd h
  all_exact done v w [] (o ∷ os) [] start run h = absurd h
  all_exact done v w [] (o ∷ os) (step ∷ steps) start run h = absurd h
  all_exact done v w (e ∷ es) [] [] start run h = absurd h
  all_exact done v w (e ∷ es) [] (step ∷ steps) start run h = absurd h
  all_exact done v w (e ∷ es) (o ∷ os) [] start run h = absurd h

  pub run_exact : (w : Session) (events : List Event) (outcomes : List Outcome)
      (steps : List (spec.Event × spec.Outcome)) → Run (initial_session capacity maximum limit) steps w
      → AreAnswered events outcomes steps → AreExact capacity maximum limit [] steps outcomes
  run_exact w events outcomes steps run h =
      all_exact [] (initial_session capacity maximum limit) w events outcomes steps refl run h
