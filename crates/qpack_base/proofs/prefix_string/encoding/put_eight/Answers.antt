use Rattle.std.proofs.Common.{arith}
use Rattle.qpack_base.proofs.AddedBits.{eight_added}
use Rattle.qpack_base.proofs.prefix_string.encoding.put_eight.Goals as goal

pub returns-clause-items : goal.returns-clause-items
returns-clause-items g c =
    eight_added c.args.eight c.to_be_bytes.result c.args.buf.now.items c.push_eight.new.buf.items
    (omega (arith, c.ranges.eight.fits)) c.to_be_bytes.ensures c.push_eight.ensures.items
