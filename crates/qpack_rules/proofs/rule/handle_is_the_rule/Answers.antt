use Rattle.qpack_rules.proofs.Handles.{handle_is_rule}
use Rattle.qpack_rules.proofs.rule.handle_is_the_rule.Goals as goal

pub returns : goal.returns
returns c = handle_is_rule
