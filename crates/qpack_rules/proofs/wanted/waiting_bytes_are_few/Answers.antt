use Rattle.qpack_rules.proofs.WaitingBytes.{waiting_bytes_few}
use Rattle.qpack_rules.proofs.wanted.waiting_bytes_are_few.Goals as goal

pub returns : goal.returns
returns c = waiting_bytes_few
