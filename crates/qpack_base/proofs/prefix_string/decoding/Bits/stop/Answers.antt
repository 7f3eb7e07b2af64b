use Rattle.std.proofs.Common.{[]}
use Rattle.qpack_base.proofs.LoadedBits.{none_loaded}
use Rattle.qpack_base.proofs.prefix_string.decoding.Bits.stop.Goals as goal

pub returns-clause-left : goal.returns-clause-left
returns-clause-left c = none_loaded []
