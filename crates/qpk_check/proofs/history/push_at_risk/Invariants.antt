use Rattle.qpk_view.specs.Texts.{Extends}
use Rattle.qpk_check.proofs.history.push_at_risk.Given as goal

abbrev pub invariant-loop-stream : goal.invariant-loop-stream
invariant-loop-stream l = Extends l.fn.text l.text
