use Rattle.std.proofs.Common.{ℕ, ◌-◌, ◌<◌, ◌≤◌, length, refl, sym, arith}
use Rattle.qpack_table.proofs.Lookups.{field_there, field_missing, not_less}
use Rattle.qpack_table.proofs.Lookups.{entry_measured, entry_unmeasured, entry_gone}
use Rattle.qpack_table.proofs.dynamic.table.DynamicTable.entry_size.Goals as goal

pub returns-then-absolute-dropped : goal.returns-then-absolute-dropped
returns-then-absolute-dropped g c =
    rw (← c.self.view_is)
    (sym (entry_gone _ c.args.absolute c.total_dropped-dropped.result c.total_dropped-dropped.ensures.exact
    c.if-absolute-dropped.true))

pub returns-in-Some : goal.returns-in-Some
returns-in-Some g c =
    let position : ℕ = c.args.absolute - c.total_dropped-dropped.result - 1 in
    let within : position < length c.self.inside.entries.items = omega (arith, c.in-Some.ensures.variant.0 refl) in
    let sized = c.self.invariant.sized in
    rw (← c.self.view_is)
    (entry_measured _ c.args.absolute position c.mem_size.result c.total_dropped-dropped.result 18446744073709551615
    c.in-Some.entry.now.field c.total_dropped-dropped.ensures.exact c.if-absolute-dropped.false refl
    (field_there c.self.inside.entries.items position c.in-Some.entry.now within c.in-Some.ensures.lookup)
    c.mem_size.ensures (omega (arith, sized.sum, sized.fits, sized.small)))

pub returns-in-None : goal.returns-in-None
returns-in-None g c =
    let position : ℕ = c.args.absolute - c.total_dropped-dropped.result - 1 in
    let past : length c.self.inside.entries.items ≤ position =
    not_less position _ (λ h. let there = c.in-None.ensures.variant.1 (omega (arith, h)) in cc) in
    rw (← c.self.view_is)
    (sym (entry_unmeasured _ c.args.absolute position c.total_dropped-dropped.result
    c.total_dropped-dropped.ensures.exact c.if-absolute-dropped.false refl
    (field_missing c.self.inside.entries.items position past)))
