use Rattle.std.proofs.Common.{arith}
use Rattle.qpack_base.proofs.StaticNames.{first_is_name_index}
use Rattle.qpack_base.proofs.FirstIndexes.{name_found, name_missing}
use Rattle.qpack_base.proofs.static_.StaticTable.find_name.Goals as goal

pub returns-clause-found : goal.returns-clause-found
returns-clause-found c = name_found c.args.name.now c.map.result (grind (arith, first_is_name_index))

pub returns-clause-none : goal.returns-clause-none
returns-clause-none c = name_missing c.args.name.now c.map.result (grind (arith, first_is_name_index))

pub returns-clause-exact : goal.returns-clause-exact
returns-clause-exact c = grind (arith, first_is_name_index)
