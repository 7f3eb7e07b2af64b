use Rattle.qpack_base.proofs.AddedBits.{four_added}
use Rattle.qpack_base.proofs.prefix_string.encoding.put_four.Goals as goal

pub returns-clause-items : goal.returns-clause-items
returns-clause-items g c =
    four_added c.args.four c.to_be_bytes.result c.args.buf.now.items c.push_four.new.buf.items c.requires.fits
    c.to_be_bytes.ensures c.push_four.ensures.items
