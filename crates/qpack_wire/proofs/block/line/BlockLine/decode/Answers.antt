use Rattle.qpack_wire.proofs.Readers.{decodes}
use Rattle.qpack_wire.proofs.BlockLines.{line_follows}
use Rattle.qpack_wire.proofs.block.line.BlockLine.decode.Goals as goal

pub returns-clause-decodes : goal.returns-clause-decodes
returns-clause-decodes c = decodes line_follows c.read_line.ensures.exact
