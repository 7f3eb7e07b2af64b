use Rattle.std.proofs.Common.{refl, ap}
use Rattle.qpack_table.specs.Errors.{table_error_of_index}
use Rattle.qpack_table.proofs.Lookups.{under_base, below_base, told, given_as}
use Rattle.qpack_table.proofs.dynamic.table.DynamicTable.get_relative_base.Goals as goal

pub returns-in_err-position : goal.returns-in_err-position
returns-in_err-position g c =
    let missing = below_base c.positions.result.now c.args.self.now c.args.base c.args.index c.positions.ensures
    (λ there. let found = c.in_err-position.ensures.tested.1 there in cc) in
    told g.F.StoredField.field c.from_residual.result _ _ (given_as c.from_residual.result _ _ c.from_residual.ensures
    (ap table_error_of_index c.in_err-position.ensures.refused)) missing

pub returns : goal.returns
returns g c =
    under_base g.F.StoredField.field c.positions.result.now c.args.self.now c.args.base c.args.index c.in_ok-position.position
    c.field_at.result
    c.positions.ensures (c.in_ok-position.ensures.tested.0 refl) c.in_ok-position.ensures.found c.field_at.ensures.found
    c.field_at.ensures.refused
