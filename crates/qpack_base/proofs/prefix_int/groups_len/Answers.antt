use Rattle.std.proofs.Common.{arith}
use Rattle.qpack_spec.proofs.WrittenIntegers.{groups_most, groups_least}
use Rattle.qpack_base.proofs.prefix_int.groups_len.Goals as goal

pub overflow_add-len : goal.overflow_add-len
overflow_add-len c = omega (arith, groups_most 9 c.args.value, groups_least 9 c.loop-left.left, c.loop-left.invariant)

pub returns-clause-few : goal.returns-clause-few
returns-clause-few c = omega (arith, groups_most 9 c.args.value, groups_least 9 c.loop-left.left, c.loop-left.invariant)
