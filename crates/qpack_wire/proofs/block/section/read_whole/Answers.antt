use Rattle.std.proofs.lemmas.Result.{err_from_is_err_and}
use Rattle.qpack_wire.specs.Prefixes.{prefix_of}
use Rattle.qpack_wire.proofs.Asking.{asks_section}
use Rattle.qpack_wire.proofs.block.section.read_whole.Goals as goal

pub returns-in_err-lines-clause-memory : goal.returns-in_err-lines-clause-memory
returns-in_err-lines-clause-memory c e =
    let p = err_from_is_err_and c.from_residual-in_err-lines.result c.from_residual-in_err-lines.ensures.1 in
    asks_section c.args.buf.now c.decode.new.buf (prefix_of c.in_ok-prefix.prefix)
    c.in_ok-prefix.ensures.decodes.found
    (c.in_err-lines.ensures.memory (let s = p.1 in let t = p.2 in cc))
