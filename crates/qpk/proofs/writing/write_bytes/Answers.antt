use Rattle.std.proofs.Common.{ℕ, List, ap, subst, sym}
use Rattle.std.specs.Borrow.{Bor}
use Rattle.qpk.proofs.Writes.{Written, written_more, written_kept}
use Rattle.qpk.proofs.writing.write_bytes.Goals.{in-Ok, in-Err}
use Rattle.qpk.proofs.writing.write_bytes.Goals as goal

pub loop-preserved : goal.loop-preserved
loop-preserved g c =
    let before = g.W.Write.contents c.args.to.now in
    let after = g.W.Write.contents c.write.new.self in
    elim c.match-write.branch [
      | in-Ok w ↦ written_more before _ after c.args.bytes.now c.loop.rest.now c.match-write.rest.now w.in-Ok.n
          c.loop.invariant w.in-Ok.ensures.bytes (ap (λ (b : Bor (List ℕ)). b.now) w.rest-is)
      | in-Err w ↦ subst (λ (b : Bor (List ℕ)). Written before after c.args.bytes.now b.now) (sym w.rest-is)
          (written_kept before _ after c.args.bytes.now c.loop.rest.now c.loop.invariant w.in-Err.ensures.bytes)
    ]
