use Rattle.qpack_safety.proofs.Headline.{answers_handed}
use Rattle.qpack_safety.proofs.sessions_answer_what_was_handed.Goals as goal

pub returns : goal.returns
returns c = answers_handed
