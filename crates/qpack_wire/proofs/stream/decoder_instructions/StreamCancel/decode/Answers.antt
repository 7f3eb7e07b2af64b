use Rattle.qpack_wire.proofs.StreamReaders.{decodes_instruction}
use Rattle.qpack_wire.proofs.InstructionForms.{stream_cancel_follows}
use Rattle.qpack_wire.proofs.stream.decoder_instructions.StreamCancel.decode.Goals as goal

pub returns-clause-decodes : goal.returns-clause-decodes
returns-clause-decodes c = decodes_instruction stream_cancel_follows c.read_stream_cancel.result c.or_none.ensures
    c.read_stream_cancel.ensures.exact
