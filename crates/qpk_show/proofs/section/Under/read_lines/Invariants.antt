use Rattle.std.proofs.Common.{◌≡◌, ℕ, ◌≤◌, length}
use Rattle.qpk_show.specs.Answers.{under, lines_of}
use Rattle.qpk_show.specs.Sections.{shown_lines_at, shown_lines}
use Rattle.qpk_show.proofs.Lines.{with_front}
use Rattle.qpk_show.proofs.section.Under.read_lines.Given as goal

abbrev pub invariant-loop-first : goal.invariant-loop-first
invariant-loop-first l =
    (k : ℕ) × (length l.buf.rest ≤ k)
    × (with_front (lines_of l.lines.items) (shown_lines_at k (under l.fn.self) l.buf.rest)
    ≡ shown_lines (under l.fn.self) l.fn.buf.rest)

abbrev pub decreases-loop-first : goal.decreases-loop-first
decreases-loop-first l = length l.buf.rest
