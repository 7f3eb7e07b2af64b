use Rattle.std.proofs.Common.{◌≡◌, ◌+◌, ◌≤◌, ◌++◌, length, vec_len, vec_capacity}
use Rattle.qpack_spec.specs.Integer.{written_groups}
use Rattle.qpack_base.proofs.prefix_int.put_groups.Given as goal

abbrev pub invariant-loop-left : goal.invariant-loop-left
invariant-loop-left g l = record {
  items : l.buf.items ++ written_groups 9 l.left ≡ l.initial.buf.items ++ written_groups 9 l.value;
  room : vec_len l.buf + length (written_groups 9 l.left) ≤ vec_capacity l.buf;
  capacity : vec_capacity l.buf ≡ vec_capacity l.initial.buf;
}

abbrev pub decreases-loop-left : goal.decreases-loop-left
decreases-loop-left g l = l.left
