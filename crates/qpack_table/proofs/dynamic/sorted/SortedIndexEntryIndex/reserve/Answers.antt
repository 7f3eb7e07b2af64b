use Rattle.std.proofs.Common.{arith}
use Rattle.qpack_table.proofs.SortedChanges.{sorted_few}
use Rattle.qpack_table.proofs.dynamic.sorted.SortedIndexEntryIndex.reserve.Goals as goal

pub returns-clause-spare : goal.returns-clause-spare
returns-clause-spare g c = λ most few spare.
    omega (arith, c.grow.ensures.capacity, sorted_few _ _ _ _ c.requires.index, few, spare)
