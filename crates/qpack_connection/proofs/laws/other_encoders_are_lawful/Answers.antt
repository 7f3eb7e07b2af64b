use Rattle.qpack_connection.proofs.RecordedRows.{others_lawful}
use Rattle.qpack_connection.proofs.laws.other_encoders_are_lawful.Goals as goal

pub returns : goal.returns
returns c = others_lawful
