use Rattle.std.proofs.Common.{◌≡◌, ◌+◌, ◌++◌, length, vec_len, vec_capacity}
use Rattle.std.specs.Vec.Iter.{into_iter_items, into_iter_len}
use Rattle.qpack_connection.specs.ConnectionRuns.{StepsAll}
use Rattle.qpack_connection.proofs.connection.Connection.step_all.Given as goal

abbrev pub invariant-loop-event : goal.invariant-loop-event
invariant-loop-event l = record {
  items : l.yielded ++ into_iter_items l.event-iterator ≡ l.fn.events.items;
  left : into_iter_len l.event-iterator ≡ length (into_iter_items l.event-iterator);
  length : vec_len l.outcomes ≡ vec_len l.fn.outcomes + length l.yielded;
  capacity : vec_capacity l.outcomes ≡ vec_capacity l.fn.outcomes;
  steps : StepsAll l.fn.self l.self l.yielded l.fn.outcomes.items l.outcomes.items;
}
