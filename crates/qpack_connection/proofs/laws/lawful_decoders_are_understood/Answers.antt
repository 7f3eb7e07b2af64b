use Rattle.qpack_connection.proofs.UnderstoodDecoders.{decoders_understood}
use Rattle.qpack_connection.proofs.laws.lawful_decoders_are_understood.Goals as goal

pub returns : goal.returns
returns c = decoders_understood
