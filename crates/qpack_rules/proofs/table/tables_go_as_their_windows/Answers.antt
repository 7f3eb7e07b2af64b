use Rattle.qpack_rules.proofs.TableLaws.{entries_inserted, capacities_of_window}
use Rattle.qpack_rules.proofs.table.tables_go_as_their_windows.Goals as goal

pub returns-clause-entries : goal.returns-clause-entries
returns-clause-entries c = entries_inserted

pub returns-clause-capacities : goal.returns-clause-capacities
returns-clause-capacities c = capacities_of_window
