use Rattle.std.proofs.Common.{◌≡◌}
use Rattle.qpk_qif.proofs.session.sender.Sender.send_all.Given as goal

abbrev pub invariant-loop-list : goal.invariant-loop-list
invariant-loop-list l = l.stream ≡ l.list-index
