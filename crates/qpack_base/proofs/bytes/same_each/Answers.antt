use Rattle.std.proofs.Common.{arith}
use Rattle.qpack_base.proofs.SameBytes.{equal_true, fronts_all}
use Rattle.qpack_base.proofs.bytes.same_each.Goals as goal

pub returns : goal.returns
returns c =
    equal_true c.args.a.now c.args.b.now (fronts_all c.args.a.now c.args.b.now c.loop-i.i c.loop-i-test.false
    (omega (arith, c.requires, c.loop-i-test.false)) c.loop-i.invariant)
