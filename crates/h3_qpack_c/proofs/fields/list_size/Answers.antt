use Rattle.std.proofs.Common.{arith}
use Rattle.qpack_base.specs.HeaderFields.{line_of}
use Rattle.h3_qpack_c.proofs.Sizes.{lent_next}
use Rattle.h3_qpack_c.proofs.fields.list_size.Goals as goal

pub loop-field-preserved : goal.loop-field-preserved
loop-field-preserved c = omega (
  arith,
  c.loop-field.invariant,
  c.saturating_add-size.ensures,
  c.mem_size.ensures,
  lent_next c.args.fields.now c.loop-field.field-index _ (line_of c.as_field.result) c.loop-field-test.true
      c.as_field.ensures,
)
