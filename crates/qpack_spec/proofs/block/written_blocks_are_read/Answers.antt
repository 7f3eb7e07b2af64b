use Rattle.qpack_spec.proofs.BlockReadings.{written_read}
use Rattle.qpack_spec.proofs.block.written_blocks_are_read.Goals as goal

pub returns : goal.returns
returns c = written_read
