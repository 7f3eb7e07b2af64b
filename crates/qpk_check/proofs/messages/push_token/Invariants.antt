use Rattle.qpk_view.specs.Texts.{Extends}
use Rattle.qpk_check.proofs.messages.push_token.Given as goal

abbrev pub invariant-loop-byte : goal.invariant-loop-byte
invariant-loop-byte l = Extends l.fn.text l.text
