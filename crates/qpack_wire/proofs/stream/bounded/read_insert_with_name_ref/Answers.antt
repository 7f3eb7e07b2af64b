use Rattle.std.proofs.Common.{rules, refl, arith, ◌<◌, length}
use Rattle.qpack_spec.specs.Form.{made_at}
use Rattle.qpack_spec.specs.Instruction.{InsertStaticName, InsertDynamicName}
use Rattle.qpack_wire.specs.Alone.{kind_at}
use Rattle.qpack_wire.proofs.stream.bounded.read_insert_with_name_ref.Goals as goal
use Rattle.qpack_wire.proofs.stream.bounded.read_insert_with_name_ref.Goals.{in-3, in-2}

pub returns-then-len-most-clause-exact : goal.returns-then-len-most-clause-exact
unfolding kind_at made_at
returns-then-len-most-clause-exact c =
    let read = c.in_ok-len.ensures.exact.0 in
    let long : c.args.most < length read.1 = let len = read.3 in omega (arith, len, c.if-len-most.true) in
    elim c.match-flags.branch [
      | in-3 w ↦ ((InsertStaticName c.in_ok-flags.index read.1, rw (w.source-is) (read.1, refl, long), search rules), search rules)
      | in-2 w ↦ ((InsertDynamicName c.in_ok-flags.index read.1, rw (w.source-is) (read.1, refl, long), search rules), search rules)
    ]
