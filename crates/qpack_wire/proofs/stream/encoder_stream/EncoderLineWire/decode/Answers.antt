use Rattle.std.proofs.Common.{sym, ◌∙◌}
use Rattle.qpack_wire.proofs.Asking.{memory_kept}
use Rattle.qpack_wire.proofs.StreamReaders.{decodes_instruction}
use Rattle.qpack_wire.proofs.StreamForms.{instruction_follows}
use Rattle.qpack_wire.proofs.stream.encoder_stream.EncoderLineWire.decode.Goals as goal

pub returns-clause-decodes : goal.returns-clause-decodes
returns-clause-decodes c =
    decodes_instruction instruction_follows c.read_line.result c.or_none.ensures c.read_line.ensures.exact

pub returns-clause-memory : goal.returns-clause-memory
returns-clause-memory c e = c.read_line.ensures.memory (memory_kept c.read_line.result (sym c.or_none.ensures ∙ e))
