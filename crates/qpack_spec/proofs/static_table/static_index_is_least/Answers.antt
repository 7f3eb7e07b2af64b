use Rattle.qpack_spec.proofs.StaticIndexes.{index_is_least}
use Rattle.qpack_spec.proofs.static_table.static_index_is_least.Goals as goal

pub returns : goal.returns
returns c = index_is_least
