use Rattle.std.proofs.Common.{◌≡◌, ℕ, ◌+◌, ◌≤◌, length, drop, deque_capacity}
use Rattle.qpack_spec.specs.Field.{total_size}
use Rattle.qpack_spec.specs.Table.{fields_in}
use Rattle.qpack_table.specs.Indexes.{HasRoomForEntry, HasFewSpare}
use Rattle.qpack_table.specs.Tables.{entries_of, IsIndexOfEntries}
use Rattle.qpack_table.specs.declared.dynamic.index.hash.SeededHashes.{SeededHashes}
use Rattle.qpack_table.proofs.dynamic.index.IndexEntryIndex.drop_oldest.Given as goal

abbrev pub invariant-loop : goal.invariant-loop
invariant-loop g l = let then = l.initial.entries in record {
  few : l.counter ≤ length then.items;
  items : l.entries.items ≡ drop l.counter then.items;
  capacity : deque_capacity l.entries ≡ deque_capacity then;
  freed : l.freed + total_size (drop l.counter (fields_in (entries_of then.items)))
      ≡ total_size (fields_in (entries_of then.items));
  index : IsIndexOfEntries l.self l.vas.dropped l.entries.items;
  room : HasRoomForEntry l.initial.self → HasRoomForEntry l.self;
  spare : (most : ℕ) → HasFewSpare most l.initial.self → HasFewSpare most l.self;
  own : (key : SeededHashes) → key.seed ≡ l.initial.self.seed → key.seed ≡ l.self.seed;
  dropped : l.vas.dropped ≡ l.initial.vas.dropped + l.counter;
  total : l.vas.total ≡ l.initial.vas.total;
}
