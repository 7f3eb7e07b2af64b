use Rattle.std.proofs.Common.{refl}
use Rattle.qpack_spec.specs.StaticTable.{static_table}
use Rattle.qpack_base.specs.StaticFields.{indexes_with_name}
use Rattle.qpack_base.proofs.StaticNames.{names_agree}
use Rattle.qpack_base.proofs.static_.names.short_names.Goals as goal

pub returns : goal.returns
unfolding static_table indexes_with_name
returns c = names_agree 0 9 _ refl
