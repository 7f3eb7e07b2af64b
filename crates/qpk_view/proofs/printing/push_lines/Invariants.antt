use Rattle.qpk_view.specs.Texts.{Extends}
use Rattle.qpk_view.proofs.printing.push_lines.Given as goal

abbrev pub invariant-loop-line : goal.invariant-loop-line
invariant-loop-line l = Extends l.fn.text l.text
