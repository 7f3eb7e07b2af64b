use Rattle.qpack_rules.proofs.WindowLaws.{eviction_count_is_least, dropped_greatest}
use Rattle.qpack_rules.proofs.window.dropped_is_greatest.Goals as goal

pub returns-clause-least : goal.returns-clause-least
returns-clause-least c = eviction_count_is_least

pub returns-clause-greatest : goal.returns-clause-greatest
returns-clause-greatest c = dropped_greatest
