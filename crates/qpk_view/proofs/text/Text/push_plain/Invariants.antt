use Rattle.qpk_view.specs.Texts.{Extends}
use Rattle.qpk_view.proofs.text.Text.push_plain.Given as goal

abbrev pub invariant-loop-character : goal.invariant-loop-character
invariant-loop-character l = Extends l.fn.self l.self
