use Rattle.qpack_rules.proofs.WindowLaws.{live_longest}
use Rattle.qpack_rules.proofs.window.live_is_longest_tail.Goals as goal

pub returns : goal.returns
returns c = live_longest
