use Rattle.std.proofs.Common.{arith}
use Rattle.qpack_spec.proofs.WrittenIntegers.{byte_fits}
use Rattle.qpack_base.proofs.prefix_int.first_byte.Goals as goal

pub overflow_cast-result : goal.overflow_cast-result
overflow_cast-result c =
    rw (c.power.ensures, c.power-2.ensures) (omega (
      arith,
      byte_fits c.args.size c.from.result c.args.prefix (omega arith) c.requires.fits,
    ))
