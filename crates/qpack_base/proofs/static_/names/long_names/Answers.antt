use Rattle.std.proofs.Common.{◌^◌, refl}
use Rattle.qpack_spec.specs.StaticTable.{static_table}
use Rattle.qpack_base.specs.StaticFields.{indexes_with_name}
use Rattle.qpack_base.proofs.StaticNames.{names_agree}
use Rattle.qpack_base.proofs.static_.names.long_names.Goals as goal

pub returns : goal.returns
unfolding static_table indexes_with_name
returns c = names_agree 16 (2 ^ 64) _ refl
