use Rattle.qpack_decoding.proofs.PieceSteps.{pieces_keep}
use Rattle.qpack_decoding.proofs.section.reader.pieces_keep_the_reading.Goals as goal

pub returns : goal.returns
returns c = pieces_keep
