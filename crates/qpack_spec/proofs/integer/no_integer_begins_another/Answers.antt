use Rattle.qpack_spec.proofs.Integers.{none_begins}
use Rattle.qpack_spec.proofs.integer.no_integer_begins_another.Goals as goal

pub returns : goal.returns
returns c = none_begins
