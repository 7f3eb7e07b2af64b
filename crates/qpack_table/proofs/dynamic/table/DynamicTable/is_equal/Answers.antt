use Rattle.std.proofs.Common.{ℕ, ◌-◌, ◌<◌, ◌≤◌, length, None, Some, refl, sym, ap, ◌∙◌, arith}
use Rattle.qpack_base.specs.HeaderFields.{line_of}
use Rattle.qpack_spec.specs.Field.{is_field}
use Rattle.std.specs.Ordering.{is_eq}
use Rattle.qpack_table.proofs.Lookups.{field_there, field_missing, not_less, passes_as}
use Rattle.qpack_table.proofs.RowOrder.{field_when_equal}
use Rattle.qpack_table.proofs.dynamic.table.DynamicTable.is_equal.Goals as goal

pub returns-in-None : goal.returns-in-None
returns-in-None g c =
    let position : ℕ = c.args.absolute - c.total_dropped-dropped.result - 1 in
    let past : length c.self.inside.entries.items ≤ position =
    not_less position _ (λ h. let there = c.in-None.ensures.variant.1 (omega (arith, h)) in cc) in
    sym
    (passes_as _ c.args.self.now (is_field (line_of c.args.field.now).field) c.args.absolute
    c.total_dropped-dropped.result None c.self.view_is c.total_dropped-dropped.ensures.exact c.if-absolute-dropped.false
    (field_missing c.self.inside.entries.items position past))

pub returns-in-Some : goal.returns-in-Some
returns-in-Some g c =
    let position : ℕ = c.args.absolute - c.total_dropped-dropped.result - 1 in
    let within : position < length c.self.inside.entries.items = omega (arith, c.in-Some.ensures.variant.0 refl) in
    let f = (line_of c.args.field.now).field in
    let e = c.in-Some.entry.now.field in
    c.is_eq.ensures ∙ ap is_eq c.compare_entry.ensures.order ∙ field_when_equal f e
    ∙ sym (passes_as _ c.args.self.now (is_field f) c.args.absolute c.total_dropped-dropped.result (Some e)
    c.self.view_is c.total_dropped-dropped.ensures.exact c.if-absolute-dropped.false
    (field_there c.self.inside.entries.items position c.in-Some.entry.now within c.in-Some.ensures.lookup))
