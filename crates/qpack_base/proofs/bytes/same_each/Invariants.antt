use Rattle.std.proofs.Common.{◌≡◌, take}
use Rattle.qpack_base.proofs.bytes.same_each.Given as goal

abbrev pub invariant-loop-i : goal.invariant-loop-i
invariant-loop-i l = take l.i l.a ≡ take l.i l.b
