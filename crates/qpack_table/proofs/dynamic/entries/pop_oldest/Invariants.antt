use Rattle.std.proofs.Common.{◌≡◌, ◌+◌, ◌≤◌, length, drop, deque_capacity}
use Rattle.qpack_spec.specs.Field.{total_size}
use Rattle.qpack_spec.specs.Table.{fields_in}
use Rattle.qpack_table.specs.Tables.{entries_of}
use Rattle.qpack_table.proofs.dynamic.entries.pop_oldest.Given as goal

abbrev pub invariant-loop : goal.invariant-loop
invariant-loop g l = let then = l.initial.entries in record {
  few : l.counter ≤ length then.items;
  items : l.entries.items ≡ drop l.counter then.items;
  capacity : deque_capacity l.entries ≡ deque_capacity then;
  freed : l.freed + total_size (drop l.counter (fields_in (entries_of then.items)))
      ≡ total_size (fields_in (entries_of then.items));
  dropped : l.vas.dropped ≡ l.initial.vas.dropped + l.counter;
  total : l.vas.total ≡ l.initial.vas.total;
}
