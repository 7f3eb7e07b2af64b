use Rattle.qpack_spec.proofs.BlockLaws.{reads_lines}
use Rattle.qpack_spec.proofs.block.reading_lines_finds_fields.Goals as goal

pub returns : goal.returns
returns c = reads_lines
