use Rattle.qpack_connection.proofs.SettledSections.{sections_settle}
use Rattle.qpack_connection.proofs.laws.sections_settle.Goals as goal

pub returns : goal.returns
returns c = sections_settle
