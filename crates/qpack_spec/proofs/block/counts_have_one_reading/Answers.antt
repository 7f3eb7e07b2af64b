use Rattle.qpack_spec.proofs.BlockLaws.{one_reading, counts_read}
use Rattle.qpack_spec.proofs.block.counts_have_one_reading.Goals as goal

pub returns-clause-one : goal.returns-clause-one
returns-clause-one c = one_reading

pub returns-clause-computed : goal.returns-clause-computed
returns-clause-computed c = counts_read
