use Rattle.std.proofs.Common.{◌≡◌, List, sym, subst, rules}
use Rattle.std.specs.List.{insert}
use Rattle.qpack_base.specs.HeaderFields.{line_of}
use Rattle.qpack_table.specs.Rows.{key_of, slot_of, IsRow, Enters}
use Rattle.qpack_table.specs.Tables.{live_fields}
use Rattle.qpack_table.specs.declared.dynamic.index.row.Slot.{Slot}
use Rattle.qpack_table.proofs.RowEntries.{slot_came}
use Rattle.qpack_table.proofs.RowSlots.{row_set, enters_set, row_inserted, enters_inserted}
use Rattle.qpack_table.proofs.RowSlots.{slot_entered, key_entered}
use Rattle.qpack_table.proofs.dynamic.index.row.Row.enter.Goals as goal

pub search-requires : goal.search-requires
search-requires g c = c.requires.row.is_row

pub returns-in-Ok-clause-row : goal.returns-in-Ok-clause-row
returns-in-Ok-clause-row g c =
    let hash = c.args.sought.now.hash in
    let is = c.requires.row.is_row in
    let there = slot_entered c.args.sought.now.part c.args.dropped c.args.entries.now.items c.args.index hash
    c.requires.live c.requires.few (line_of c.args.sought.now.line).field c.requires.field c.requires.hashed in
    let key = key_entered c.args.sought.now.part c.args.dropped c.args.entries.now.items c.args.index hash
    c.requires.live c.requires.few _ c.requires.field in
    slot_came _ _ c.args.entries.now.items c.args.index hash _ _ c.requires.live c.requires.few c.requires.row
    (row_set _ _ _ _ is _ there (key_of c.args.sought.now) key _ c.in-Ok.ensures.place)
    (enters_set _ _ _ _ is _ there (key_of c.args.sought.now) key _ c.in-Ok.ensures.place)

pub returns-in_default-clause-row : goal.returns-in_default-clause-row
returns-in_default-clause-row g c =
    let part = c.args.sought.now.part in
    let live = live_fields c.args.entries.now.items in
    let hash = c.args.sought.now.hash in
    let is = c.requires.row.is_row in
    let inserted : c.insert.new.self.items
    ≡ insert c.args.self.now.slots.items c.in-Err.position (slot_of hash c.args.index) = search rules in
    let there = slot_entered part c.args.dropped c.args.entries.now.items c.args.index hash
    c.requires.live c.requires.few (line_of c.args.sought.now.line).field c.requires.field c.requires.hashed in
    let key = key_entered part c.args.dropped c.args.entries.now.items c.args.index hash
    c.requires.live c.requires.few _ c.requires.field in
    slot_came _ _ c.args.entries.now.items c.args.index hash _ _ c.requires.live c.requires.few c.requires.row
    (subst (λ (xs : List Slot). IsRow part c.args.dropped live xs) (sym inserted)
    (row_inserted _ _ _ _ is _ there (key_of c.args.sought.now) key _ c.in-Err.ensures.place))
    (subst (λ (xs : List Slot). Enters part c.args.dropped live c.args.self.now.slots.items xs
    (slot_of hash c.args.index)) (sym inserted)
    (enters_inserted _ _ _ _ is _ there (key_of c.args.sought.now) key _ c.in-Err.ensures.place))
