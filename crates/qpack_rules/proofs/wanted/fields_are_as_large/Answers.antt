use Rattle.qpack_rules.proofs.WaitingFields.{fields_as_large}
use Rattle.qpack_rules.proofs.wanted.fields_are_as_large.Goals as goal

pub returns : goal.returns
returns c = fields_as_large
