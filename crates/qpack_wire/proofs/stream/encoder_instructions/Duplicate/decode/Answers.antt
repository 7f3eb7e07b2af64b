use Rattle.qpack_wire.proofs.StreamReaders.{decodes_instruction}
use Rattle.qpack_wire.proofs.InstructionForms.{duplicate_follows}
use Rattle.qpack_wire.proofs.stream.encoder_instructions.Duplicate.decode.Goals as goal

pub returns-clause-decodes : goal.returns-clause-decodes
returns-clause-decodes c =
    decodes_instruction duplicate_follows c.read_duplicate.result c.or_none.ensures c.read_duplicate.ensures.exact
