-- Runs of the session's code, event by event.
use Rattle.std.proofs.Common.{◌≡◌, ◌≤◌, ℕ, List, [], ◌∷◌, ◌++◌, length, take, refl, sym, ap, subst, ◌∙◌, append_assoc}
use Rattle.std.proofs.Common.{min, arith}
use Rattle.std.proofs.Math.Seq.{take-length}
use Rattle.std.proofs.lemmas.List.{take_min}
use Rattle.qpack_rules.specs.Session as spec
use Rattle.qpack_rules.specs.Session.{Session, Run, initial_session}
use Rattle.qpack_safety.specs.SessionSafety.{IsSafe}
use Rattle.qpack_safety.proofs.FourParts.{sessions_safe}
use Rattle.h3_qpack.proofs.Sessions.{run_more}
use Rattle.h3_qpack.specs.SessionRuns.{AreAnswered, Continues, PerformsAll, Runs}
use Rattle.h3_qpack.specs.Sessions.{SessionView, Reaches, Answers, IsAnswerTo, Follows, event_of}
use Rattle.h3_qpack.specs.declared.session.Event.{Event}
use Rattle.h3_qpack.specs.declared.session.Outcome.{Outcome}

answered_more : (es : List Event) (os : List Outcome) (steps : List (spec.Event
    × spec.Outcome)) (e : Event) (o : Outcome)
    (answer : spec.Outcome) → AreAnswered es os steps → IsAnswerTo (event_of e) o → Answers o answer
    → AreAnswered (es ++ e ∷ []) (os ++ o ∷ []) (steps ++ (event_of e, answer) ∷ [])
answered_more [] [] [] e o answer h kind answers = (refl, kind, answers, tt)
answered_more [] [] (step ∷ steps) e o answer h kind answers = absurd h
answered_more [] (r ∷ os) [] e o answer h kind answers = absurd h
answered_more [] (r ∷ os) (step ∷ steps) e o answer h kind answers = absurd h
answered_more (d ∷ es) [] [] e o answer h kind answers = absurd h
answered_more (d ∷ es) [] (step ∷ steps) e o answer h kind answers = absurd h
answered_more (d ∷ es) (r ∷ os) [] e o answer h kind answers = absurd h
answered_more (d ∷ es) (r ∷ os) (step ∷ steps) e o answer h kind answers =
    (h.0, h.1, h.2, answered_more es os steps e o answer h.3 kind answers)

-- one event more
pub performs_more : (old mid new : SessionView) (events more : List Event) (e : Event) (r : Outcome)
    (before answers behind : List Outcome) → PerformsAll old mid events before answers → Follows mid new (event_of e) r
    → more ≡ events ++ e ∷ [] → behind ≡ answers ++ r ∷ [] → PerformsAll old new more before behind
performs_more old mid new events more e r before answers behind p follows whole wrote = (
  p.0 ++ r ∷ [],
  wrote ∙ ap (λ (l : List Outcome). l ++ r ∷ []) p.1 ∙ append_assoc before p.0 (r ∷ []),
  λ v shows.
      let k = p.2 v shows in
      let goes = follows k.session k.shows in
      subst (λ (es : List Event). Continues es (p.0 ++ r ∷ []) new v) (sym whole)
      (record {
        steps = k.steps ++ (event_of e, goes.answer) ∷ [];
        session = goes.next;
        answered = answered_more events p.0 k.steps e r goes.answer k.answered goes.kind goes.answers;
        shows = goes.shows;
        run = run_more v k.session goes.next k.steps (event_of e) goes.answer k.run goes.passes;
      }),
)

-- from the beginning, what the session theorem says holds
pub runs : (P : List (spec.Event × spec.Outcome) → Session → Type 0) (capacity maximum limit : ℕ)
    → ((steps : List (spec.Event × spec.Outcome)) (v : Session) → IsSafe capacity maximum limit steps v → P steps v)
    → (first s : SessionView) (events : List Event) (none outcomes : List Outcome)
    → Reaches first capacity maximum limit [] (initial_session capacity maximum limit) → none ≡ []
    → PerformsAll first s events none outcomes → Runs capacity maximum limit events outcomes s P
runs P capacity maximum limit part first s events none outcomes reaches empty p =
    let k = p.2 (initial_session capacity maximum limit) reaches.shows in
    let same : outcomes ≡ p.0 = p.1 ∙ ap (λ (l : List Outcome). l ++ p.0) empty in
    record {
      steps = k.steps;
      session = k.session;
      answered = subst (λ (os : List Outcome). AreAnswered events os k.steps) (sym same) k.answered;
      reaches = record { within = reaches.within; shows = k.shows; run = k.run };
      holds = part k.steps k.session (sessions_safe capacity maximum limit reaches.within k.steps k.session k.run);
    }

-- the run alone
pub runs_so : (capacity maximum limit : ℕ) (first s : SessionView) (events : List Event) (none outcomes : List Outcome)
    → Reaches first capacity maximum limit [] (initial_session capacity maximum limit) → none ≡ []
    → PerformsAll first s events none outcomes → Runs capacity maximum limit events outcomes s (λ steps v. Unit {0})
runs_so capacity maximum limit first s events none outcomes reaches empty p =
    runs (λ steps v. Unit {0}) capacity maximum limit (λ steps v safe. tt) first s events none outcomes reaches empty p

-- behind the last event all are done
pub performs_within : (old new : SessionView) (events : List Event) (many : ℕ) (before behind : List Outcome)
    → length events ≤ many → PerformsAll old new (take many events) before behind
    → PerformsAll old new events before behind
performs_within old new events many before behind all p =
    let most : min many (length events) ≡ length events = omega (arith, all) in
    let whole : take many events ≡ events =
    sym (take_min many events) ∙ ap (λ (n : ℕ). take n events) most ∙ take-length events in
    subst (λ (es : List Event). PerformsAll old new es before behind) whole p
