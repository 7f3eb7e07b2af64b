use Rattle.qpack_rules.proofs.SessionAnswers.{events_answer}
use Rattle.qpack_rules.proofs.session.every_event_has_an_answer.Goals as goal

pub returns : goal.returns
returns c = events_answer
