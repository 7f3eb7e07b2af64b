use Rattle.qpack_wire.proofs.Bounded.{bounded_decodes}
use Rattle.qpack_wire.proofs.stream.bounded.BoundedLine.decode.Goals as goal

pub returns-clause-decodes : goal.returns-clause-decodes
returns-clause-decodes c =
    bounded_decodes c.args.most c.args.buf.now c.read_line.new.buf c.read_line.result c.or_none.result c.or_none.ensures
    c.read_line.ensures.exact
