use Rattle.qpack_rules.proofs.StatelessPairs.{pair_agrees}
use Rattle.qpack_rules.proofs.stateless.stateless_pair_agrees.Goals as goal

pub returns : goal.returns
returns c = pair_agrees
