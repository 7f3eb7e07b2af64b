use Rattle.std.proofs.Common.{refl}
use Rattle.qpack_spec.specs.StaticTable.{static_table}
use Rattle.qpack_spec.proofs.static_table.static_table_has_99.Goals as goal

pub returns : goal.returns
unfolding static_table
returns c = refl
