use Rattle.std.proofs.Common.{◌≡◌, ◌+◌, take, vec_len, vec_capacity}
use Rattle.h3_qpack.specs.SessionRuns.{PerformsAll}
use Rattle.h3_qpack.proofs.session.Session.perform_all.Given as goal

abbrev pub invariant-loop-event : goal.invariant-loop-event
invariant-loop-event l = record {
  length : vec_len l.outcomes ≡ vec_len l.fn.outcomes + l.event-index;
  capacity : vec_capacity l.outcomes ≡ vec_capacity l.fn.outcomes;
  performs : PerformsAll l.fn.self l.self (take l.event-index l.events) l.fn.outcomes.items l.outcomes.items;
}
