use Rattle.std.proofs.Common.{◌≡◌, ℕ, ◌≤◌, length}
use Rattle.qpack_wire.specs.Blocks.{lines_of, lines_at, lines_in}
use Rattle.qpack_wire.proofs.Asking.{HasBegun}
use Rattle.qpack_wire.proofs.ReadBlocks.{with_front}
use Rattle.qpack_wire.proofs.block.section.read_lines.Given as goal

abbrev pub invariant-loop-alloc : goal.invariant-loop-alloc
invariant-loop-alloc l = record {
  lines :
      (k : ℕ) × (length l.buf.rest ≤ k)
      × (with_front (lines_of l.lines) (lines_at k l.buf.rest) ≡ lines_in l.fn.buf.rest);
  begun : HasBegun l.fn.buf.rest l.buf.rest;
}

abbrev pub decreases-loop-alloc : goal.decreases-loop-alloc
decreases-loop-alloc l = length l.buf.rest
