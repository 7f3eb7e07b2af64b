use Rattle.std.proofs.Common.{◌≡◌, ◌+◌, length}
use Rattle.qpack_spec.specs.Integer.{written_groups}
use Rattle.qpack_base.proofs.prefix_int.groups_len.Given as goal

abbrev pub invariant-loop-left : goal.invariant-loop-left
invariant-loop-left l = l.len + length (written_groups 9 l.left) ≡ length (written_groups 9 l.value) + 1

abbrev pub decreases-loop-left : goal.decreases-loop-left
decreases-loop-left l = l.left
