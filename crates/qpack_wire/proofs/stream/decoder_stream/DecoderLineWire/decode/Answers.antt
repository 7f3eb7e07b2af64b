use Rattle.qpack_wire.proofs.StreamReaders.{decodes_instruction}
use Rattle.qpack_wire.proofs.StreamForms.{decoder_instruction_follows}
use Rattle.qpack_wire.proofs.stream.decoder_stream.DecoderLineWire.decode.Goals as goal

pub returns-clause-decodes : goal.returns-clause-decodes
returns-clause-decodes c =
    decodes_instruction decoder_instruction_follows c.read_line.result c.or_none.ensures c.read_line.ensures.exact
