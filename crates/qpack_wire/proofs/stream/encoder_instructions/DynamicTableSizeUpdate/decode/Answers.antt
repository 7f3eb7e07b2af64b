use Rattle.qpack_wire.proofs.StreamReaders.{decodes_instruction}
use Rattle.qpack_wire.proofs.InstructionForms.{dynamic_table_size_update_follows}
use Rattle.qpack_wire.proofs.stream.encoder_instructions.DynamicTableSizeUpdate.decode.Goals as goal

pub returns-clause-decodes : goal.returns-clause-decodes
returns-clause-decodes c = decodes_instruction dynamic_table_size_update_follows c.read_dynamic_table_size_update.result
    c.or_none.ensures c.read_dynamic_table_size_update.ensures.exact
