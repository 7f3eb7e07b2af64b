use Rattle.qpack_connection.proofs.UnderstoodCalls.{encoders_understood}
use Rattle.qpack_connection.proofs.laws.lawful_encoders_are_understood.Goals as goal

pub returns : goal.returns
returns c = encoders_understood
