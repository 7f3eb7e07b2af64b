use Rattle.std.proofs.Common.{arith}
use Rattle.qpack_spec.proofs.StaticIndexes.{has_99}
use Rattle.qpack_base.proofs.static_.row.Goals as goal

pub returns-else-index-lt-LEN-clause-unknown : goal.returns-else-index-lt-LEN-clause-unknown
returns-else-index-lt-LEN-clause-unknown c = (cc, omega (arith, has_99))
