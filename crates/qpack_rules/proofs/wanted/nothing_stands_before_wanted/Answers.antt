use Rattle.qpack_rules.proofs.Waiting.{nothing_before_wanted}
use Rattle.qpack_rules.proofs.wanted.nothing_stands_before_wanted.Goals as goal

pub returns : goal.returns
returns c = nothing_before_wanted
