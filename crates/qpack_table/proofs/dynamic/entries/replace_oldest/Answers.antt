use Rattle.std.proofs.Common.{◌≡◌, ℕ, ◌+◌, ◌∷◌, [], ◌++◌, List, drop, length, ap, sym, subst, ◌∙◌, arith}
use Rattle.std.proofs.lemmas.List.{length-append, length-drop}
use Rattle.qpack_spec.specs.Field.{Field, FieldLine, field_size, total_size}
use Rattle.qpack_spec.specs.Table.{fields_in}
use Rattle.qpack_table.specs.Positions.{Positions}
use Rattle.qpack_table.specs.Tables.{entries_of}
use Rattle.qpack_table.specs.Entries.{Entry}
use Rattle.qpack_table.proofs.Evictions.{left_is}
use Rattle.qpack_table.proofs.WholeIndexes.{newest_there}
use Rattle.qpack_table.proofs.dynamic.entries.replace_oldest.Goals as goal

pub enter-requires-clause-few : goal.enter-requires-clause-few
enter-requires-clause-few g c =
    let long = ap (λ (l : List Entry). length l) c.push_back_reserved.ensures.items in
    let one = length-append c.drop_oldest-freed.new.entries.items (c.args.entry ∷ []) in
    let left = ap (λ (l : List Entry). length l) (c.drop_oldest-freed.ensures.left
    ∙ ap (λ (l : List Entry). drop c.args.evicted l) c.in_ok-make_room.ensures.items) in
    omega (arith, long, one, left, length-drop c.args.evicted c.args.entries.now.items, c.requires.live)

pub enter-requires-clause-within : goal.enter-requires-clause-within
enter-requires-clause-within g c =
    let at = newest_there _ _ _ _ _ _ _ _ c.requires.counted (c.drop_oldest-freed.ensures.left
    ∙ ap (λ (l : List Entry). drop c.args.evicted l) c.in_ok-make_room.ensures.items) c.requires.there
    c.drop_oldest-freed.ensures.dropped c.add.ensures.index c.add.ensures.added
    c.total_dropped-2.ensures.exact in
    let total : c.add.result ≡ c.args.vas.now.total + 1 =
    c.add.ensures.index ∙ ap (λ (p : Positions). p.total + 1) c.drop_oldest-freed.ensures.dropped in
    let long = ap (λ (l : List Entry). length l) c.push_back_reserved.ensures.items in
    let one = length-append c.drop_oldest-freed.new.entries.items (c.args.entry ∷ []) in
    omega (arith, at.is, total, c.requires.few, long, one)

pub enter-requires-clause-pushed : goal.enter-requires-clause-pushed
enter-requires-clause-pushed g c =
    let same = c.total_dropped-2.ensures.exact ∙ ap (λ (p : Positions). p.dropped) c.add.ensures.added in (
      c.drop_oldest-freed.new.entries.items,
      c.args.entry,
      c.push_back_reserved.ensures.items,
      subst (λ (d : ℕ). g.I.EntryIndex.is_index_of c.drop_oldest-freed.new.self d
          c.drop_oldest-freed.new.entries.items) (sym same) c.drop_oldest-freed.ensures.index,
      subst (λ (f : Field). g.I.EntryIndex.is_key_of c.own_key-key.result f) (ap (λ (l : FieldLine). l.field)
          c.as_line.ensures) c.own_key-key.ensures.key,
    )

pub enter-requires-clause-own : goal.enter-requires-clause-own
enter-requires-clause-own g c =
    c.drop_oldest-freed.ensures.own _ (c.in_ok-reserve.ensures.own _ c.own_key-key.ensures.own)

pub enter-requires-clause-room : goal.enter-requires-clause-room
enter-requires-clause-room g c = c.drop_oldest-freed.ensures.room c.in_ok-reserve.ensures.room

pub returns-clause-entered : goal.returns-clause-entered
returns-clause-entered g c =
    c.push_back_reserved.ensures.items
    ∙ ap (λ (l : List Entry). l ++ c.args.entry ∷ []) (c.drop_oldest-freed.ensures.left
    ∙ ap (λ (l : List Entry). drop c.args.evicted l) c.in_ok-make_room.ensures.items)

pub returns-clause-index : goal.returns-clause-index
returns-clause-index g c = subst (λ (d : ℕ). g.I.EntryIndex.is_index_of c.enter.new.self d
    c.push_back_reserved.new.self.items) c.total_dropped-2.ensures.exact c.enter.ensures.index

pub returns-clause-sum : goal.returns-clause-sum
returns-clause-sum g c =
    let freed : c.drop_oldest-freed.result
    + total_size (drop c.args.evicted (fields_in (entries_of c.args.entries.now.items)))
    ≡ total_size (fields_in (entries_of c.args.entries.now.items)) =
    rw (← c.in_ok-make_room.ensures.items) c.drop_oldest-freed.ensures.freed in
    let size : c.mem_size-size.result ≡ field_size c.args.entry.field =
    omega (arith, c.requires.small_entry, c.mem_size-size.ensures) in
    left_is _ _ _ _ _ _ c.requires.sum freed size

pub returns-clause-still : goal.returns-clause-still
returns-clause-still g c room =
    c.push_back_reserved.ensures.capacity ∙ c.drop_oldest-freed.ensures.capacity ∙ c.make_room.ensures.still room
