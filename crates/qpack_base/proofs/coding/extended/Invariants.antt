use Rattle.std.proofs.Common.{◌≡◌, ◌+◌, ◌++◌, length, vec_len, vec_capacity}
use Rattle.qpack_base.proofs.coding.extended.Given as goal

abbrev pub invariant-loop-first : goal.invariant-loop-first
invariant-loop-first g l = record {
  all : l.buf.items ++ l.rest ≡ l.fn.buf.items ++ l.bytes;
  len : vec_len l.buf + length l.rest ≡ vec_len l.fn.buf + length l.bytes;
  capacity : vec_capacity l.buf ≡ vec_capacity l.fn.buf;
}

abbrev pub decreases-loop-first : goal.decreases-loop-first
decreases-loop-first g l = length l.rest
