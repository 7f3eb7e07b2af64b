use Rattle.qpack_wire.proofs.Readers.{decodes}
use Rattle.qpack_wire.proofs.Prefixes.{prefix_follows}
use Rattle.qpack_wire.proofs.block.prefix.HeaderPrefix.decode.Goals as goal

pub returns-clause-decodes : goal.returns-clause-decodes
returns-clause-decodes c = decodes prefix_follows c.read_header_prefix.ensures.exact
