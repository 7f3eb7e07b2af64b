use Rattle.std.proofs.Common.{rules}
use Rattle.qpack_base.proofs.StaticNames.{index_is_first}
use Rattle.qpack_base.proofs.static_.StaticTable.find_line.Goals as goal

pub returns : goal.returns
returns c = search (rules, index_is_first)
