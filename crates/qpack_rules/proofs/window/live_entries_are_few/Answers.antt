use Rattle.qpack_rules.proofs.WindowLaws.{live_few}
use Rattle.qpack_rules.proofs.window.live_entries_are_few.Goals as goal

pub returns : goal.returns
returns c = live_few
