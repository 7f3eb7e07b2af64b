use Rattle.qpack_spec.proofs.WrittenIntegers.{written_shortest}
use Rattle.qpack_spec.proofs.integer.written_integers_are_shortest.Goals as goal

pub returns : goal.returns
returns c = written_shortest
