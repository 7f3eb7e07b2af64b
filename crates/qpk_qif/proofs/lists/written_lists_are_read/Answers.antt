use Rattle.qpk_qif.proofs.WrittenLists.{lists_behind}
use Rattle.qpk_qif.proofs.lists.written_lists_are_read.Goals as goal

pub returns : goal.returns
returns c = λ lists plain. lists_behind lists 1 plain
