use Rattle.qpack_decoding.proofs.PieceWindows.{pieces_leave}
use Rattle.qpack_decoding.proofs.PiecesInTurn.{pieces_give, pieces_give_all}
use Rattle.qpack_decoding.proofs.section.reader.pieces_give_the_section.Goals as goal

pub returns-clause-leave : goal.returns-clause-leave
returns-clause-leave c = pieces_leave

pub returns-clause-fields : goal.returns-clause-fields
returns-clause-fields c = pieces_give

pub returns-clause-section : goal.returns-clause-section
returns-clause-section c = pieces_give_all
