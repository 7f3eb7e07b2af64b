use Rattle.std.proofs.Common.{◌<◌, ◌+◌, List, length, refl, sym, subst, arith}
use Rattle.qpack_table.specs.Rows.{IsRow, Leaves}
use Rattle.qpack_table.specs.Tables.{live_fields}
use Rattle.qpack_table.specs.declared.dynamic.index.row.Slot.{Slot}
use Rattle.qpack_table.proofs.Lookups.{fields_long}
use Rattle.qpack_table.proofs.RowEntries.{entry_left}
use Rattle.qpack_table.proofs.RowSearches.{slot_at}
use Rattle.qpack_table.proofs.RowSlots.{row_removed, leaves_removed, leaves_none}
use Rattle.qpack_table.proofs.dynamic.index.row.Row.leave.Goals as goal

pub position_of_oldest-requires-clause-row : goal.position_of_oldest-requires-clause-row
position_of_oldest-requires-clause-row g c = c.requires.row.is_row

pub returns-in-Some-clause-row : goal.returns-in-Some-clause-row
returns-in-Some-clause-row g c =
    let some : 0 < length (live_fields c.args.entries.now.items) =
    omega (arith, fields_long c.args.entries.now.items, c.requires.some) in
    let is = c.requires.row.is_row in
    let read = slot_at c.args.self.now.slots.items _ _ (record { hash = 0; low = 0 }) refl
    c.in-Some.ensures.some.within in
    entry_left _ _ _ _ _ _ c.requires.row some c.requires.some
    (subst (λ (xs : List Slot). IsRow c.args.sought.now.part c.args.dropped (live_fields c.args.entries.now.items) xs)
    (sym c.remove.ensures.items)
    (row_removed _ _ _ _ is (c.args.dropped + 1) c.in-Some.position c.in-Some.ensures.some _ read))
    (subst (λ (xs : List Slot). Leaves c.args.dropped c.args.self.now.slots.items xs (c.args.dropped + 1))
    (sym c.remove.ensures.items)
    (leaves_removed _ _ _ _ is (c.args.dropped + 1) c.in-Some.position c.in-Some.ensures.some _ read))

pub returns-in_default-clause-row : goal.returns-in_default-clause-row
returns-in_default-clause-row g c =
    let some : 0 < length (live_fields c.args.entries.now.items) =
    omega (arith, fields_long c.args.entries.now.items, c.requires.some) in
    entry_left _ _ _ _ _ _ c.requires.row some c.requires.some c.requires.row.is_row
    (leaves_none _ _ _ c.in_default.ensures.none)
