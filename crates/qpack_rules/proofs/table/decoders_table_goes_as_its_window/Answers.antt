use Rattle.qpack_rules.proofs.PutTables.{applied_put}
use Rattle.qpack_rules.proofs.table.decoders_table_goes_as_its_window.Goals as goal

pub returns : goal.returns
returns c = applied_put
