use Rattle.std.proofs.Common.{◌≡◌, ◌+◌, ◌≤◌, length}
use Rattle.qpk.specs.Notes.{return_line}
use Rattle.qpk.proofs.note.return_line.Given as goal

abbrev pub invariant-loop-byte : goal.invariant-loop-byte
invariant-loop-byte l =
    (return_line l.number l.rest ≡ return_line 1 l.input) × (l.number + length l.rest ≤ length l.input + 1)

abbrev pub decreases-loop-byte : goal.decreases-loop-byte
decreases-loop-byte l = length l.rest
