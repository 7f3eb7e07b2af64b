use Rattle.qpack_rules.proofs.Pieces.{pieces_add_up, pieces_small}
use Rattle.qpack_rules.proofs.session.pieces_report_all.Goals as goal

pub returns-clause-sum : goal.returns-clause-sum
returns-clause-sum c = pieces_add_up

pub returns-clause-sizes : goal.returns-clause-sizes
returns-clause-sizes c = pieces_small
