use Rattle.std.proofs.Common.{refl, ap, ◌∙◌}
use Rattle.qpack_table.specs.Errors.{table_error_of_index}
use Rattle.qpack_table.proofs.Lookups.{recent_missing, recent_there, recent_live, never_refused, refused_as}
use Rattle.qpack_table.proofs.dynamic.table.DynamicTable.get_relative.Goals as goal

pub returns-in_err-position-clause-refused : goal.returns-in_err-position-clause-refused
returns-in_err-position-clause-refused g c =
    let missing = recent_missing c.positions.result.now c.args.self.now c.args.index c.positions.ensures
    (λ live. let there = c.in_err-position.ensures.live.1 live in cc) in
    refused_as c.from_residual.result _ _ c.from_residual.ensures
    (λ e given. (given ∙ ap table_error_of_index c.in_err-position.ensures.refused, missing))

pub returns-clause-found : goal.returns-clause-found
returns-clause-found g c =
    rw (recent_there c.positions.result.now c.args.self.now c.args.index c.in_ok-position.position c.positions.ensures
    c.in_ok-position.ensures.found) c.field_at.ensures.found

pub returns-clause-refused : goal.returns-clause-refused
returns-clause-refused g c =
    never_refused c.field_at.result _ _ _ c.field_at.ensures.refused
    (recent_live c.positions.result.now c.args.self.now c.args.index c.in_ok-position.position c.positions.ensures
    (c.in_ok-position.ensures.live.0 refl) c.in_ok-position.ensures.found)
