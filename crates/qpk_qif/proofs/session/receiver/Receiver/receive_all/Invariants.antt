use Rattle.std.proofs.Common.{◌+◌, ◌≤◌, length}
use Rattle.qpk_qif.proofs.session.receiver.Receiver.receive_all.Given as goal

abbrev pub invariant-loop-rest : goal.invariant-loop-rest
invariant-loop-rest l = l.number + length l.rest ≤ length l.recording

abbrev pub decreases-loop-rest : goal.decreases-loop-rest
decreases-loop-rest l = length l.rest
