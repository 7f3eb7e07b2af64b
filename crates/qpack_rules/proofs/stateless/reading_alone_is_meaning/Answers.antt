use Rattle.qpack_rules.proofs.StatelessMeanings.{reading_alone}
use Rattle.qpack_rules.proofs.stateless.reading_alone_is_meaning.Goals as goal

pub returns : goal.returns
returns c = reading_alone
