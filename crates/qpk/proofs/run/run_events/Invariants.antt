use Rattle.std.proofs.Common.{◌≡◌, ◌++◌, List, ℕ, take, string_bytes}
use Rattle.qpk.specs.Runs.{PrintsAll}
use Rattle.qpk.specs.Scripts.{events_in}
use Rattle.qpk.proofs.run.run_events.Given as goal

abbrev pub invariant-loop-event : goal.invariant-loop-event
invariant-loop-event l =
    (out : List ℕ) × PrintsAll l.fn.session l.session (events_in (take l.event-index l.events)) out
    × (string_bytes l.text ≡ string_bytes l.fn.text ++ out)
