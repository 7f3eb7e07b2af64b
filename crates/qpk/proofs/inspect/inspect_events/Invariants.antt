use Rattle.std.proofs.Common.{drop}
use Rattle.std.specs.Prelude.{string_bytes}
use Rattle.qpk.specs.Inspections.{events_in}
use Rattle.qpk.proofs.InspectedEvents.{Moved}
use Rattle.qpk.proofs.inspect.inspect_events.Given as goal

abbrev pub invariant-loop-event : goal.invariant-loop-event
invariant-loop-event l =
    Moved l.fn.decoder.table l.decoder.table (events_in l.fn.events) (events_in (drop l.event-index l.fn.events))
    (string_bytes l.fn.text) (string_bytes l.text) l.stream.items l.taken
