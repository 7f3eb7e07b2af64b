use Rattle.qpk_view.specs.Texts.{Extends}
use Rattle.qpk_check.proofs.history.push_blocked.Given as goal

abbrev pub invariant-loop-section : goal.invariant-loop-section
invariant-loop-section l = Extends l.fn.text l.text
