use Rattle.std.proofs.Common.{arith}
use Rattle.qpack_base.proofs.WrittenCodes.{sum_more, sum_all}
use Rattle.qpack_base.proofs.prefix_string.encoding.bits_of_few.Goals as goal

pub loop-byte-preserved : goal.loop-byte-preserved
loop-byte-preserved c =
    let loop = c.loop-byte in record {
      sum = sum_more c.args.text.now loop.byte-index loop.bits c.bits_of_byte-bits.result c.loop-byte-test.true
          loop.invariant.sum c.bits_of_byte-bits.ensures.len;
      most = omega (arith, loop.invariant.most, c.bits_of_byte-bits.ensures.most);
    }

pub returns-clause-len : goal.returns-clause-len
returns-clause-len c = sum_all c.args.text.now c.loop-byte.byte-index c.loop-byte.bits c.loop-byte-test.false
    c.loop-byte.invariant.sum
