use Rattle.qpack_safety.proofs.FourParts.{sessions_safe}
use Rattle.qpack_safety.proofs.sessions_are_safe.Goals as goal

pub returns : goal.returns
returns c = sessions_safe
