use Rattle.std.proofs.Common.{◌≡◌, filter, length, nat_lt}
use Rattle.qpack_table.specs.BlockedBlocks.{counts_of}
use Rattle.qpack_table.proofs.dynamic.open_blocks.BlockedBlocks.release_up_to.Given as goal

abbrev pub invariant-loop : goal.invariant-loop
invariant-loop l = filter (λ required. nat_lt l.count required) (counts_of l.self)
    ≡ filter (λ required. nat_lt l.count required) (counts_of l.initial.self)

abbrev pub decreases-loop : goal.decreases-loop
decreases-loop l = length (counts_of l.self)
