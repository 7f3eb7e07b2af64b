use Rattle.std.proofs.Common.{◌≡◌, map, string_bytes, length}
use Rattle.qpk.specs.Commands.{explain_words, with_explain_words}
use Rattle.qpk.proofs.command.explain.read_explain_words.Given as goal

abbrev pub invariant-loop-first : goal.invariant-loop-first
invariant-loop-first l =
    with_explain_words l.words (map string_bytes l.left) ≡ with_explain_words explain_words (map string_bytes l.rest)

abbrev pub decreases-loop-first : goal.decreases-loop-first
decreases-loop-first l = length l.left
