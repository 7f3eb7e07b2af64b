use Rattle.qpack_connection.proofs.RecordedDecoders.{decoders_lawful}
use Rattle.qpack_connection.proofs.laws.other_decoders_are_lawful.Goals as goal

pub returns : goal.returns
returns c = decoders_lawful
