use Rattle.std.proofs.Common.{◌≡◌, ◌+◌, ◌≤◌, length}
use Rattle.qpk_show.specs.Showing.{blocked_streams}
use Rattle.qpk_show.proofs.observer.blocked_streams.Given as goal

abbrev pub invariant-loop-first : goal.invariant-loop-first
invariant-loop-first l =
    (l.count + blocked_streams l.rest ≡ blocked_streams l.fn.arrived)
    × (l.count + length l.rest ≤ length l.fn.arrived)

abbrev pub decreases-loop-first : goal.decreases-loop-first
decreases-loop-first l = length l.rest
