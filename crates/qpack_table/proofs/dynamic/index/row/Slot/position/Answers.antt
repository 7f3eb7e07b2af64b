use Rattle.std.proofs.Common.{refl}
use Rattle.qpack_table.specs.Rows.{index_of}
use Rattle.qpack_table.proofs.dynamic.index.row.Slot.position.Goals as goal

pub returns : goal.returns
unfolding index_of
returns c = refl
