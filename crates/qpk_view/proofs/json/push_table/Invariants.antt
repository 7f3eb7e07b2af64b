use Rattle.qpk_view.specs.Texts.{Extends}
use Rattle.qpk_view.proofs.json.push_table.Given as goal

abbrev pub invariant-loop-index : goal.invariant-loop-index
invariant-loop-index l = Extends l.fn.text l.text
