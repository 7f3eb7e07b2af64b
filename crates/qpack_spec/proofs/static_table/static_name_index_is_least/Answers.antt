use Rattle.qpack_spec.proofs.StaticIndexes.{name_index_is_least}
use Rattle.qpack_spec.proofs.static_table.static_name_index_is_least.Goals as goal

pub returns : goal.returns
returns c = name_index_is_least
