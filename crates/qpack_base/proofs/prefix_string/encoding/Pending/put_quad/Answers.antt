use Rattle.std.proofs.Common.{List, ℕ, subst, arith}
use Rattle.qpack_base.specs.WrittenPayloads.{HasAdded}
use Rattle.qpack_base.proofs.PutCodes.{adds_four}
use Rattle.qpack_base.proofs.prefix_string.encoding.Pending.put_quad.Goals as goal

pub returns-then-pending-lt64-clause-added : goal.returns-then-pending-lt64-clause-added
returns-then-pending-lt64-clause-added g c =
    let all = adds_four c.args.four.now c.args.self c.with.result c.with-2.result c.with-3.result c.with-pending.result
    (omega arith)
    c.with.ensures c.with-2.ensures c.with-3.ensures c.with-pending.ensures in
    let now = c.flush in
    subst (λ (l : List ℕ). HasAdded l now.result.count now.result.bits c.args.buf.now.items now.new.buf.items)
    (all.bits (omega (arith, c.if-pending-lt64.true))) now.ensures.added
