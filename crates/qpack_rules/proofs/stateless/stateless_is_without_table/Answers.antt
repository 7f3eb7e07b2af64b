use Rattle.qpack_rules.proofs.StatelessTables.{without_table}
use Rattle.qpack_rules.proofs.stateless.stateless_is_without_table.Goals as goal

pub returns : goal.returns
returns c = without_table
