use Rattle.std.proofs.Common.{◌<◌, ◌≤◌}
use Rattle.qpack_table.specs.Rows.{key_of, Searching}
use Rattle.qpack_table.specs.Tables.{live_fields}
use Rattle.qpack_table.proofs.dynamic.index.row.Row.narrow.Given as goal

abbrev pub invariant-loop : goal.invariant-loop
invariant-loop g l = record {
  parted : Searching l.sought.part l.dropped (live_fields l.entries.items) l.self.slots.items (key_of l.sought) l.low l.high;
  from : l.low ≤ l.at;
  to : l.at < l.high;
}
