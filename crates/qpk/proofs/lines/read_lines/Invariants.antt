use Rattle.std.proofs.Common.{◌≡◌, ◌+◌, ◌≤◌, length, map}
use Rattle.qpk_qif.specs.Lines.{lines_of}
use Rattle.qpk.specs.LineItems.{items_from}
use Rattle.qpk.proofs.FieldLines.{with_front}
use Rattle.qpk.proofs.lines.read_lines.Given as goal

abbrev pub invariant-loop-rest : goal.invariant-loop-rest
invariant-loop-rest g l =
    (with_front (map g.T.FromLine.value l.items.items) (items_from g.T.FromLine.of_line (l.number + 1) (lines_of l.rest))
    ≡ items_from g.T.FromLine.of_line 1 (lines_of l.text))
    × (l.number + length l.rest ≤ length l.text)

abbrev pub decreases-loop-rest : goal.decreases-loop-rest
decreases-loop-rest g l = length l.rest
