use Rattle.qpack_base.proofs.LoadedBits.{none_loaded}
use Rattle.qpack_base.proofs.prefix_string.decoding.Bits.new.Goals as goal

pub returns-clause-left : goal.returns-clause-left
returns-clause-left c = none_loaded c.args.payload.now
