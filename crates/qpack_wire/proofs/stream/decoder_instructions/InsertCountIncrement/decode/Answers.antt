use Rattle.qpack_wire.proofs.StreamReaders.{decodes_instruction}
use Rattle.qpack_wire.proofs.InstructionForms.{insert_count_increment_follows}
use Rattle.qpack_wire.proofs.stream.decoder_instructions.InsertCountIncrement.decode.Goals as goal

pub returns-clause-decodes : goal.returns-clause-decodes
returns-clause-decodes c = decodes_instruction insert_count_increment_follows c.read_insert_count_increment.result
    c.or_none.ensures c.read_insert_count_increment.ensures.exact
