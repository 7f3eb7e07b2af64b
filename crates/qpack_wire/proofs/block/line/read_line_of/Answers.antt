use Rattle.std.proofs.Common.{sym, ◌∙◌}
use Rattle.std.proofs.lemmas.Result.{err_from_is_err_and}
use Rattle.qpack_wire.proofs.BlockLines.{asks_literal}
use Rattle.qpack_wire.proofs.block.line.read_line_of.Goals as goal

pub returns-in_err-decode-in-Literal-clause-memory : goal.returns-in_err-decode-in-Literal-clause-memory
returns-in_err-decode-in-Literal-clause-memory c e =
    let p = err_from_is_err_and c.from_residual-in_err-decode-in-Literal.result
    c.from_residual-in_err-decode-in-Literal.ensures.1 in
    let first = sym c.decode.ensures ∙ c.in-Literal.is in
    asks_literal c.args.first c.args.buf.now.rest c.ranges.first.fits c.requires first
    (c.in_err-decode-in-Literal.ensures.memory (let s = p.1 in let t = p.2 in cc))
