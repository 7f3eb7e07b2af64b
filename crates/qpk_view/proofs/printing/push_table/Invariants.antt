use Rattle.qpk_view.specs.Texts.{Extends}
use Rattle.qpk_view.proofs.printing.push_table.Given as goal

abbrev pub invariant-loop-entry : goal.invariant-loop-entry
invariant-loop-entry l = Extends l.fn.text l.text
