use Rattle.h3_qpack.proofs.SessionAnswers.{unrefused_step, exact_step}
use Rattle.h3_qpack.proofs.Sessions.{keeps}
use Rattle.h3_qpack.proofs.session.Session.step.Goals as goal

pub returns-clause-follows : goal.returns-clause-follows
returns-clause-follows c = keeps _ (λ capacity maximum limit events v safe. safe.follows) _ _ _ _ c.perform.ensures.goes

pub returns-clause-refuses : goal.returns-clause-refuses
returns-clause-refuses c = keeps _ (λ capacity maximum limit events v safe. safe.refuses) _ _ _ _ c.perform.ensures.goes

pub returns-clause-decodes : goal.returns-clause-decodes
returns-clause-decodes c = keeps _ (λ capacity maximum limit events v safe. safe.decodes) _ _ _ _ c.perform.ensures.goes

pub returns-clause-waits : goal.returns-clause-waits
returns-clause-waits c = keeps _ (λ capacity maximum limit events v safe. safe.waits) _ _ _ _ c.perform.ensures.goes

pub returns-clause-unrefused : goal.returns-clause-unrefused
returns-clause-unrefused c = unrefused_step _ _ _ _ c.recall_events.ensures c.perform.ensures.goes

pub returns-clause-exact : goal.returns-clause-exact
returns-clause-exact c = exact_step _ _ _ _ c.perform.ensures.goes
