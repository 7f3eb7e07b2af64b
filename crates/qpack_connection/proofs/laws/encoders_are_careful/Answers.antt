use Rattle.qpack_connection.proofs.UnderstoodDecoders.{encoders_careful}
use Rattle.qpack_connection.proofs.laws.encoders_are_careful.Goals as goal

pub returns : goal.returns
returns c = encoders_careful
