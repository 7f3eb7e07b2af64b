use Rattle.qpack_wire.specs.BlockLines.{line_of}
use Rattle.qpk_show.proofs.Lines.{line_shortens}
use Rattle.qpk_show.proofs.section.Under.read_line.Goals as goal

pub returns-clause-shorter : goal.returns-clause-shorter
returns-clause-shorter c =
    line_shortens c.args.buf.now.rest (line_of c.in_ok-line.line) c.decode_line.new.buf.rest c.requires
    c.in_ok-line.ensures.exact
