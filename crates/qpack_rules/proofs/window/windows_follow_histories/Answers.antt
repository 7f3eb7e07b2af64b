use Rattle.qpack_rules.proofs.WindowLaws.{windows_follow}
use Rattle.qpack_rules.proofs.window.windows_follow_histories.Goals as goal

pub returns : goal.returns
returns c = windows_follow
