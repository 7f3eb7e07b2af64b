use Rattle.qpack_rules.proofs.StatelessPairs.{rule_without}
use Rattle.qpack_rules.proofs.stateless.rule_without_table_is_stateless.Goals as goal

pub returns : goal.returns
returns c = rule_without
