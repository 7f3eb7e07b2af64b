use Rattle.qpack_connection.proofs.ArrivedSections.{sections_arrive}
use Rattle.qpack_connection.proofs.laws.sections_arrive.Goals as goal

pub returns : goal.returns
returns c = sections_arrive
