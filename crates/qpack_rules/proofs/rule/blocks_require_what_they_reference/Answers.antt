use Rattle.qpack_spec.proofs.References.{blocks_require}
use Rattle.qpack_rules.proofs.rule.blocks_require_what_they_reference.Goals as goal

pub returns : goal.returns
returns c = blocks_require
