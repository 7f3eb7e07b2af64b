use Rattle.qpack_connection.proofs.TwoEndsHeadline.{two_ends_answer}
use Rattle.qpack_connection.proofs.laws.two_ends_answer_what_was_handed.Goals as goal

pub returns : goal.returns
returns c = two_ends_answer
