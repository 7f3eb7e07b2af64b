-- What the theorem of two ends says of the events of a connection, one by one and in turn (RFC 9204, sections 2 to 4).
use Rattle.std.specs.Prelude.{◌≡◌, List, [], ◌∷◌, ◌++◌, Option, None, Some}
use Rattle.std.specs.Option.{IfSome}
use Rattle.qpack_connection.specs.declared.connection.ConnectionSettings.{ConnectionSettings}
use Rattle.qpack_connection.specs.declared.connection.Event.{Event}
use Rattle.qpack_connection.specs.declared.connection.Outcome.{Outcome}
use Rattle.qpack_connection.specs.Connections.{Connection, Call, Run}
use Rattle.qpack_connection.specs.declared.connection.RunError.{RunError}
use Rattle.qpack_connection.specs.declared.connection.RunError.TheVariants.{Settings, Memory}
use Rattle.qpack_connection.specs.ConnectionEvents.{Shows, BeginsWith, call_of, Makes, GoesAll}
use Rattle.qpack_decoding.specs.Decoders.{FailsSettings}
use Rattle.qpack_connection.specs.TwoEndsHeadline.{Answers, AllFit, AllAnswer}

-- a call is made, and returns what the theorem says
pub record MakesSo (call : Call) (old new : Connection) : Type 0 where
  pub makes : Makes call old new
  pub answers : Answers call old makes.next makes.step

-- an event that is a call, with its outcome, returns what the theorem says
abbrev pub AnswersEvent : Connection → Connection → Event → Outcome → Type 0
AnswersEvent old new e o = IfSome (call_of o e) (λ call. MakesSo call old new)

-- all events were performed, and their outcomes come after the earlier ones
abbrev pub StepsAll : Connection → Connection → List Event → List Outcome → List Outcome → Type 0
StepsAll old new events before behind =
    (more : List Outcome) × (behind ≡ before ++ more) × GoesAll events more old new

-- events in turn, each with its outcome, lead here from a new connection of these settings
abbrev pub GoesFrom : ConnectionSettings → List Event → List Outcome → Connection → Type 0
GoesFrom settings events outcomes c =
    (first : Connection) × BeginsWith settings first × GoesAll events outcomes first c

-- a run is refused: its settings are, or memory is
abbrev pub RefusesRun : ConnectionSettings → RunError → Type 0
RefusesRun settings (Settings e) = FailsSettings settings.decoder e
RefusesRun settings Memory = Unit {0}

-- the calls after one more, if there is one
abbrev pub behind_call : Option Call → List Call → List Call
behind_call None calls = calls
behind_call (Some call) calls = call ∷ calls

-- the calls that events with their outcomes are
abbrev pub calls_of : List Event → List Outcome → List Call
calls_of [] os = []
calls_of (e ∷ es) [] = []
calls_of (e ∷ es) (o ∷ os) = behind_call (call_of o e) (calls_of es os)

-- the theorem of two ends of events from a new connection of these settings on: the calls that they are, with their
-- results, lead to a connection that is shown, each returns what the theorem says, and after them the connection has
-- the theorem's properties
pub record AnswerWhatWasHanded (settings : ConnectionSettings) (events : List Event) (outcomes : List Outcome)
    (s : Connection) : Type 0 where
  pub first : Connection
  pub begins : BeginsWith settings first
  pub last : Connection
  pub run : Run (calls_of events outcomes) first last
  pub fits : AllFit (calls_of events outcomes) first last run
  pub answers : AllAnswer settings.decoder.max_blocked (calls_of events outcomes) first last run
  pub shows : Shows s last
