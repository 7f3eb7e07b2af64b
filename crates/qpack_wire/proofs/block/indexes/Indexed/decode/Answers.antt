use Rattle.qpack_wire.proofs.Readers.{decodes}
use Rattle.qpack_wire.proofs.LineForms.{indexed_follows}
use Rattle.qpack_wire.proofs.block.indexes.Indexed.decode.Goals as goal

pub returns-clause-decodes : goal.returns-clause-decodes
returns-clause-decodes c = decodes indexed_follows c.read_indexed.ensures.exact
