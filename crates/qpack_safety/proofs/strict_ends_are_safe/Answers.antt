use Rattle.qpack_safety.proofs.TwoEnds.{strict_ends_safe}
use Rattle.qpack_safety.proofs.strict_ends_are_safe.Goals as goal

pub returns : goal.returns
returns c = strict_ends_safe
