use Rattle.std.proofs.Common.{arith}
use Rattle.qpack_base.proofs.HighBits.{high_of}
use Rattle.qpack_base.proofs.WholeCodes.{short_begins}
use Rattle.qpack_base.proofs.prefix_string.ahead.Ahead.code.Goals as goal

pub returns-then-bits-self : goal.returns-then-bits-self
returns-then-bits-self c =
    let a = c.args.self in
    let few = c.requires.few in
    let high = high_of a.loaded a.count (omega arith) (omega arith) c.requires.zeros in (
      c.if-bits-self.true,
      short_begins a.loaded a.count _ c.from-bits.result _ high few (omega arith) c.short_codes.ensures
          c.from-bits.ensures c.if-bits-self.true,
    )
