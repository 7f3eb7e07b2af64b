use Rattle.std.proofs.Common.{◌-◌, length}
use Rattle.qpack_table.proofs.Walks.{Walked}
use Rattle.qpack_table.proofs.dynamic.table.DynamicTable.evictable_count.Given as goal

abbrev pub invariant-loop-evicted : goal.invariant-loop-evicted
invariant-loop-evicted g l = Walked l.self l.self-inside.entries.items l.room l.rest l.evicted

abbrev pub decreases-loop-evicted : goal.decreases-loop-evicted
decreases-loop-evicted g l = length l.self-inside.entries.items - l.evicted
