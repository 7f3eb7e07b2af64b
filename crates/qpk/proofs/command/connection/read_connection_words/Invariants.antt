use Rattle.std.proofs.Common.{◌≡◌, map, string_bytes, length}
use Rattle.qpk.specs.Commands.{connection_words, with_connection_words}
use Rattle.qpk.proofs.command.connection.read_connection_words.Given as goal

abbrev pub invariant-loop-first : goal.invariant-loop-first
invariant-loop-first l =
    with_connection_words l.words (map string_bytes l.left)
    ≡ with_connection_words (connection_words l.is_check) (map string_bytes l.rest)

abbrev pub decreases-loop-first : goal.decreases-loop-first
decreases-loop-first l = length l.left
