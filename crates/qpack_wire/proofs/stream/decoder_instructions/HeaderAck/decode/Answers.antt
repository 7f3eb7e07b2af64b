use Rattle.qpack_wire.proofs.StreamReaders.{decodes_instruction}
use Rattle.qpack_wire.proofs.InstructionForms.{header_ack_follows}
use Rattle.qpack_wire.proofs.stream.decoder_instructions.HeaderAck.decode.Goals as goal

pub returns-clause-decodes : goal.returns-clause-decodes
returns-clause-decodes c =
    decodes_instruction header_ack_follows c.read_header_ack.result c.or_none.ensures c.read_header_ack.ensures.exact
