use Rattle.qpack_base.proofs.WholeCodes.{none_ahead}
use Rattle.qpack_base.proofs.prefix_string.ahead.Ahead.new.Goals as goal

pub returns-clause-left : goal.returns-clause-left
returns-clause-left c = none_ahead _ c.args.payload.now
