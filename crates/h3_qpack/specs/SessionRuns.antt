-- Runs of the session's code.
use Rattle.std.specs.Prelude.{◌≡◌, ℕ, ◌⊎◌, List, [], ◌∷◌, ◌++◌, Result}
use Rattle.qpack_base.specs.Refusals.{IsRefusedFor}
use Rattle.qpack_rules.specs.Session as spec
use Rattle.qpack_rules.specs.Session.{Session, StartRefusal}
use Rattle.qpack_safety.specs.Headline.{AnswersWhatWasHanded}
use Rattle.qpack_table.specs.declared.dynamic.Error.{Error}
use Rattle.qpack_table.specs.declared.dynamic.Error.TheVariants.{Memory}
use Rattle.h3_qpack.specs.Sessions.{SessionView, Shows, Reaches, Answers, IsAnswerTo, event_of}
use Rattle.h3_qpack.specs.SessionStarts.{start_refusal_of}
use Rattle.h3_qpack.specs.declared.session.Event.{Event}
use Rattle.h3_qpack.specs.declared.session.Outcome.{Outcome}

-- the steps are these events, each with its outcome, which is of its kind
abbrev pub AreAnswered : List Event → List Outcome → List (spec.Event × spec.Outcome) → Type 0
AreAnswered [] [] [] = Unit {0}
AreAnswered (e ∷ es) (o ∷ os) (step ∷ steps) =
    (step.0 ≡ event_of e) × IsAnswerTo (event_of e) o × Answers o step.1 × AreAnswered es os steps
AreAnswered es os steps = ⊥

-- the headline: the outcomes of the events, each of its kind, are what was passed
abbrev pub AnswerWhatWasHanded : List Event → List Outcome → Type 0
AnswerWhatWasHanded events outcomes =
    (steps : List (spec.Event × spec.Outcome)) × AreAnswered events outcomes steps × AnswersWhatWasHanded steps

-- events, each with its outcome, lead from the beginning to a session that is shown, and P holds of it
pub record Runs (capacity maximum limit : ℕ) (events : List Event) (outcomes : List Outcome) (s : SessionView)
    (P : List (spec.Event × spec.Outcome) → Session → Type 0) : Type 0 where
  pub steps : List (spec.Event × spec.Outcome)
  pub session : Session
  pub answered : AreAnswered events outcomes steps
  pub reaches : Reaches s capacity maximum limit steps session
  pub holds : P steps session

-- a run is refused memory, or its session does not begin
abbrev pub RefusesRun : Error → Result Session StartRefusal → Type 0
RefusesRun e read = (e ≡ Memory) ⊎ IsRefusedFor read (start_refusal_of e)

-- what a run added: its events lead from whichever session was shown to one that is shown
pub record Continues (events : List Event) (outcomes : List Outcome) (new : SessionView) (v : Session) : Type 0 where
  pub steps : List (spec.Event × spec.Outcome)
  pub session : Session
  pub answered : AreAnswered events outcomes steps
  pub shows : Shows new session
  pub run : spec.Run v steps session

-- all events were performed, and their outcomes come after the earlier ones
abbrev pub PerformsAll : SessionView → SessionView → List Event → List Outcome → List Outcome → Type 0
PerformsAll old new events outcomes_old outcomes_new =
    (more : List Outcome) × (outcomes_new ≡ outcomes_old ++ more)
    × ((v : Session) → Shows old v → Continues events more new v)
