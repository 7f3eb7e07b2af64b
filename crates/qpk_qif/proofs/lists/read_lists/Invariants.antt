use Rattle.std.proofs.Common.{◌≡◌, ◌+◌, ◌≤◌, length}
use Rattle.qpk_qif.specs.Lines.{lines_of}
use Rattle.qpk_qif.specs.Lists.{lists_from, lists_of}
use Rattle.qpk_qif.proofs.ReadLists.{behind}
use Rattle.qpk_qif.proofs.lists.read_lists.Given as goal

abbrev pub invariant-loop-rest : goal.invariant-loop-rest
invariant-loop-rest l =
    (behind l.lists (lists_from (l.number + 1) (lines_of l.rest)) ≡ lists_of l.text)
    × (l.number + length l.rest ≤ length l.text)

abbrev pub decreases-loop-rest : goal.decreases-loop-rest
decreases-loop-rest l = length l.rest
