use Rattle.std.proofs.Common.{arith}
use Rattle.qpack_base.proofs.StaticRows.{row_below}
use Rattle.qpack_base.proofs.stored_field.packed.PackedField.with_name_at.Goals as goal

pub overflow_cast-result : goal.overflow_cast-result
overflow_cast-result c = let below = row_below c.args.index c.requires in omega (arith, below)
