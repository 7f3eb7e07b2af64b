use Rattle.qpack_spec.proofs.Integers.{one_value}
use Rattle.qpack_spec.proofs.integer.integers_have_one_value.Goals as goal

pub returns : goal.returns
returns c = one_value
