use Rattle.std.proofs.Common.{arith}
use Rattle.qpack_table.proofs.BlockedBlocks.{popped, one_released, numbered_released, one_fewer, none_covered}
use Rattle.qpack_table.proofs.BlockedBlocks.{none_there, no_keys}
use Rattle.qpack_table.proofs.dynamic.open_blocks.BlockedBlocks.release_one.Goals as goal

pub returns-in_default-clause-none : goal.returns-in_default-clause-none
returns-in_default-clause-none c is = rw (← c.self.view_is)
    (none_there c.args.count (record { kept = c.self.inside.kept; keys = c.self.inside.keys.keys })
    (no_keys c.first.result c.self.inside.keys.keys c.in_default.is c.first.ensures.variant))

pub returns-then-least-count-clause-none : goal.returns-then-least-count-clause-none
returns-then-least-count-clause-none c is = rw (← c.self.view_is)
    (none_covered c.args.count (record { kept = c.self.inside.kept; keys = c.self.inside.keys.keys })
    c.in-Some.least.now (omega arith) c.in-Some.ensures.all_from)

pub invariant_of-self : goal.invariant_of-self
invariant_of-self c = numbered_released c.self.inside.kept c.in-Some.least.now _ _ c.self.invariant
    (popped _ _ _ _ c.pop_first.ensures.variant c.pop_first.ensures.removal c.in-Some.ensures.first)

pub returns-clause-same : goal.returns-clause-same
returns-clause-same c = rw (← c.self.view_is) (one_released c.args.count c.self.inside.kept c.in-Some.least.now _ _
    (popped _ _ _ _ c.pop_first.ensures.variant c.pop_first.ensures.removal c.in-Some.ensures.first) (omega arith))

pub returns-clause-fewer : goal.returns-clause-fewer
returns-clause-fewer c is = rw (← c.self.view_is) (one_fewer c.self.inside.kept c.in-Some.least.now _ _
    c.self.invariant
    (popped _ _ _ _ c.pop_first.ensures.variant c.pop_first.ensures.removal c.in-Some.ensures.first))
