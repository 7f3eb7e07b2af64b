use Rattle.std.proofs.Common.{◌-◌, length}
use Rattle.qpack_table.specs.Rows.{key_of, Searching}
use Rattle.qpack_table.specs.Tables.{live_fields}
use Rattle.qpack_table.proofs.Halvings.{CountsHalved}
use Rattle.qpack_table.proofs.dynamic.index.row.Row.search.Given as goal

abbrev pub invariant-loop-low : goal.invariant-loop-low
invariant-loop-low g l = record {
  parted : Searching l.sought.part l.dropped (live_fields l.entries.items) l.self.slots.items (key_of l.sought) l.low l.high;
  counted : CountsHalved (length l.self.slots.items) (l.high - l.low) l.initial.steps.count l.steps.count;
}

abbrev pub decreases-loop-low : goal.decreases-loop-low
decreases-loop-low g l = l.high - l.low
