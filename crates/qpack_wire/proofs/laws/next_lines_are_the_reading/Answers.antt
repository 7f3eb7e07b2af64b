use Rattle.qpack_wire.proofs.NextLines.{next_lines_read}
use Rattle.qpack_wire.proofs.laws.next_lines_are_the_reading.Goals as goal

pub returns-clause-encoder : goal.returns-clause-encoder
returns-clause-encoder c = next_lines_read _ _ _

pub returns-clause-decoder : goal.returns-clause-decoder
returns-clause-decoder c = next_lines_read _ _ _
