use Rattle.std.proofs.Common.{◌<◌, ◌≤◌, length, refl, arith}
use Rattle.qpack_table.proofs.Lookups.{field_there, field_missing, not_less}
use Rattle.qpack_table.proofs.dynamic.table.DynamicTable.field_at.Goals as goal

pub returns-in-Some-clause-found : goal.returns-in-Some-clause-found
returns-in-Some-clause-found g c =
    let within : c.args.position
    < length c.self.inside.entries.items = omega (arith, c.in-Some.ensures.variant.0 refl) in
    rw (← c.self.view_is, c.field.ensures)
    (field_there c.self.inside.entries.items c.args.position c.in-Some.entry.now within c.in-Some.ensures.lookup)

pub returns-in-None-clause-refused : goal.returns-in-None-clause-refused
returns-in-None-clause-refused g c =
    let past : length c.self.inside.entries.items ≤ c.args.position =
    not_less c.args.position _ (λ h. let there = c.in-None.ensures.variant.1 (omega (arith, h)) in cc) in
    (refl, rw (← c.self.view_is) (field_missing c.self.inside.entries.items c.args.position past))
