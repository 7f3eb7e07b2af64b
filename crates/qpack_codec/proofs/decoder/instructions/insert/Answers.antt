use Rattle.std.proofs.lemmas.Result.{err_from_is_err_and}
use Rattle.qpack_spec.specs.Table.{put}
use Rattle.qpack_codec.proofs.Instructions.{growth_fails}
use Rattle.qpack_codec.proofs.decoder.instructions.insert.Goals as goal

pub returns-in_err-put : goal.returns-in_err-put
returns-in_err-put g c =
    let p = err_from_is_err_and c.from_residual.result c.from_residual.ensures.1 in
    rw (p.1, p.2)
    (growth_fails _ c.in_err-put.field-0.0 (put c.args.table.now (g.F.StoredField.field c.args.field)) c.args.table.now
    c.put.new.self c.in_err-put.ensures)
