use Rattle.std.proofs.Common.{rules, refl, arith, ◌<◌, ◌+◌, length}
use Rattle.qpack_spec.specs.Form.{made_at}
use Rattle.qpack_spec.specs.Instruction.{InsertLiteralName}
use Rattle.qpack_wire.specs.Alone.{kind_at}
use Rattle.qpack_wire.proofs.stream.bounded.read_insert_without_name_ref.Goals as goal
use Rattle.qpack_wire.proofs.stream.bounded.read_insert_without_name_ref.Goals.{then-name_len-most-via-then-name_len-most}
use Rattle.qpack_wire.proofs.stream.bounded.read_insert_without_name_ref.Goals.{then-name_len-most-via-else-name_len-most+then-value_len-left}

pub returns-then-name_len-most-clause-exact : goal.returns-then-name_len-most-clause-exact
unfolding kind_at made_at
returns-then-name_len-most-clause-exact c =
    let name = c.in_ok-name_len.ensures.exact.0 in
    let value = c.in_ok-value_len.ensures.exact.0 in
    let name_len = name.3 in
    let value_len = value.3 in
    let left = c.saturating_sub-left.ensures in
    let long : c.args.most < length name.1 + length value.1 = elim c.then-name_len-most.branch [
      | then-name_len-most-via-then-name_len-most w ↦ omega (arith, name_len, value_len, w.if-name_len-most)
      | then-name_len-most-via-else-name_len-most+then-value_len-left w ↦
          omega (arith, name_len, value_len, left, w.if-value_len-left)
    ] in
    ((InsertLiteralName name.1 value.1, (name.1, value.1, refl, long), search rules), search rules)
