use Rattle.std.proofs.Common.{refl}
use Rattle.std.proofs.lemmas.Result.{err_from_is_err_and}
use Rattle.qpack_spec.specs.Table.{window}
use Rattle.qpack_wire.specs.BlockLines.{line_of}
use Rattle.qpack_wire.proofs.Asking.{asks_found}
use Rattle.qpack_codec.proofs.Asking.{line_asks}
use Rattle.qpack_codec.proofs.ReadSections.{line_then_field}
use Rattle.qpack_codec.proofs.decoder.sections.read_field.Goals as goal

pub returns-clause-exact : goal.returns-clause-exact
returns-clause-exact g c =
    line_then_field (window c.args.table.now.table.now) c.args.table.now.base c.args.buf.now c.decode.new.buf
    (line_of c.in_ok-line.line) c.field_of_line.result c.in_ok-line.ensures.exact.0 c.in_ok-line.ensures.exact.1
    c.field_of_line.ensures

pub returns-clause-memory : goal.returns-clause-memory
returns-clause-memory g c e =
    asks_found c.args.buf.now c.decode.new.buf (line_of c.in_ok-line.line) c.in_ok-line.ensures.decodes.found

pub returns-in_err-line-clause-memory : goal.returns-in_err-line-clause-memory
returns-in_err-line-clause-memory g c e =
    let p = err_from_is_err_and c.from_residual.result c.from_residual.ensures.1 in
    line_asks _ c.in_err-line.field-0.0 c.from_residual.result p.0 c.args.buf.now.rest refl p.1 p.2
    c.in_err-line.ensures.exact c.in_err-line.ensures.memory e
