use Rattle.std.proofs.lemmas.Result.{err_from_is_err_and}
use Rattle.qpack_spec.specs.Table.{with_capacity}
use Rattle.qpack_codec.proofs.Instructions.{change_fails}
use Rattle.qpack_codec.proofs.decoder.instructions.set_capacity.Goals as goal

pub returns-in_err-set_max_size-clause-applies : goal.returns-in_err-set_max_size-clause-applies
returns-in_err-set_max_size-clause-applies g c =
    let p = err_from_is_err_and c.from_residual.result c.from_residual.ensures.1 in
    rw (p.1, p.2)
    (change_fails c.in_err-set_max_size.field-0.0 (with_capacity c.args.table.now c.args.size) c.args.table.now
    c.set_max_size.new.self c.in_err-set_max_size.ensures)
