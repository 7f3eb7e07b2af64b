use Rattle.std.proofs.Common.{inr}
use Rattle.std.proofs.lemmas.Result.{IfOk-weaker, IfErr-weaker}
use Rattle.qpk.proofs.serve.run.Goals as goal

pub returns-clause-answered : goal.returns-clause-answered
returns-clause-answered g c =
    IfOk-weaker c.run_command.result _ _ (λ note h. (c.in_ok-command.command, c.in_ok-command.ensures, h.0, h.1))
    c.run_command.ensures.answered

pub returns-clause-refused : goal.returns-clause-refused
returns-clause-refused g c =
    IfErr-weaker c.run_command.result _ _ (λ r h. inr (c.in_ok-command.command, c.in_ok-command.ensures, h))
    c.run_command.ensures.refused
