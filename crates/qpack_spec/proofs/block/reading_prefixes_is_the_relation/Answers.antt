use Rattle.qpack_spec.proofs.BlockLaws.{reads_prefixes}
use Rattle.qpack_spec.proofs.BlockReadings.{prefix_spelled}
use Rattle.qpack_spec.proofs.block.reading_prefixes_is_the_relation.Goals as goal

pub returns-clause-read : goal.returns-clause-read
returns-clause-read c = reads_prefixes

pub returns-clause-written : goal.returns-clause-written
returns-clause-written c = prefix_spelled
