use Rattle.std.proofs.Common.{rules}
use Rattle.qpack_base.proofs.StaticNames.{indexes_found, indexes_missing}
use Rattle.qpack_base.proofs.static_.indexes_of.Goals as goal

pub returns-in_default : goal.returns-in_default
returns-in_default c = indexes_missing c.args.name.now c.names_of_length.result.now (search rules) (search rules)

pub returns : goal.returns
returns c = indexes_found c.args.name.now c.names_of_length.result.now c.in-Some.entry.now (search rules) (search rules)
