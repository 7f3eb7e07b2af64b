use Rattle.qpack_base.proofs.PutCodes.{flushed}
use Rattle.qpack_base.proofs.prefix_string.encoding.Pending.flush.Goals as goal

pub returns-clause-added : goal.returns-clause-added
returns-clause-added g c =
    flushed c.args.self.count c.args.self.bits c.args.buf.now.items c.put_four.new.buf.items c.if-self-lt32.false
    c.put_four.ensures.items
