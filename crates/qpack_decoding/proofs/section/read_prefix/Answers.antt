use Rattle.std.proofs.Common.{◌∙◌, sym, ap}
use Rattle.std.proofs.lemmas.Result.{err_from_is_err_and}
use Rattle.qpack_spec.specs.Table.{window}
use Rattle.qpack_wire.specs.Prefixes.{prefix_of, read_prefix_at}
use Rattle.qpack_decoding.proofs.SectionParts.{prefix_fails}
use Rattle.qpack_decoding.proofs.section.read_prefix.Goals as goal

pub returns-in_err-required : goal.returns-in_err-required
returns-in_err-required g c =
    let e = err_from_is_err_and c.from_residual-in_err-required.result
    c.from_residual-in_err-required.ensures.1 in
    let read = ap read_prefix_at (sym c.new-buf.ensures.rest) ∙ c.in_ok-prefix.ensures.exact.0 in
    rw (e.1, e.2)
    (prefix_fails (window c.args.table.now) c.args.section.now c.decode.new.buf.rest
    (prefix_of c.in_ok-prefix.prefix) _ read c.in_err-required.ensures)
