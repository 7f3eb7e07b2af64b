use Rattle.qpack_wire.proofs.Readers.{decodes}
use Rattle.qpack_wire.proofs.LineForms.{post_base_follows}
use Rattle.qpack_wire.proofs.block.indexes.IndexedWithPostBase.decode.Goals as goal

pub returns-clause-decodes : goal.returns-clause-decodes
returns-clause-decodes c = decodes post_base_follows c.read_indexed_with_post_base.ensures.exact
