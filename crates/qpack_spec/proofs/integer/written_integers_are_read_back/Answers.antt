use Rattle.qpack_spec.proofs.WrittenIntegers.{written_back}
use Rattle.qpack_spec.proofs.integer.written_integers_are_read_back.Goals as goal

pub returns : goal.returns
returns c = written_back
