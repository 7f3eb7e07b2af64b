use Rattle.qpack_wire.specs.Lines.{literal}
use Rattle.qpack_wire.proofs.Asking.{asks_alone}
use Rattle.qpack_wire.proofs.Readers.{decodes}
use Rattle.qpack_wire.proofs.LineForms.{literal_follows}
use Rattle.qpack_wire.proofs.block.literals.Literal.decode.Goals as goal

pub returns-clause-decodes : goal.returns-clause-decodes
returns-clause-decodes c = decodes literal_follows c.read_literal.ensures.exact

pub returns-clause-memory : goal.returns-clause-memory
returns-clause-memory c e = asks_alone literal c.args.buf.now.rest (c.read_literal.ensures.memory e)
