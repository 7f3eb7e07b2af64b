use Rattle.std.proofs.Common.{sym, ap, ◌∙◌}
use Rattle.qpack_spec.specs.Table.{Table}
use Rattle.qpack_table.proofs.Sent.{may_below, may_received}
use Rattle.qpack_table.proofs.dynamic.table.DynamicTable.may_reference.Goals as goal

pub returns-then-is_below_limit : goal.returns-then-is_below_limit
returns-then-is_below_limit g c =
    c.if-is_below_limit.true ∙ may_below c.args.self.now c.args.absolute (sym c.is_below_limit.ensures ∙
    c.if-is_below_limit.true)

pub returns-else-is_below_limit : goal.returns-else-is_below_limit
returns-else-is_below_limit g c = may_received c.args.self.now c.args.absolute _ (sym c.is_below_limit.ensures ∙
    c.if-is_below_limit.false)
    (ap (λ (t : Table). t.known_received_count) c.self.view_is)
