use Rattle.std.proofs.Common.{arith}
use Rattle.qpack_base.proofs.WrittenCodes.{sum_four}
use Rattle.qpack_base.proofs.prefix_string.encoding.bits_of_four.Goals as goal

pub returns-clause-len : goal.returns-clause-len
returns-clause-len c =
    omega (
      arith,
      sum_four c.args.four.now (omega arith),
      c.bits_of_byte.ensures.len,
      c.bits_of_byte-2.ensures.len,
      c.bits_of_byte-3.ensures.len,
      c.bits_of_byte-4.ensures.len,
    )
