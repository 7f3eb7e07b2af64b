use Rattle.std.proofs.Common.{refl, arith}
use Rattle.qpack_table.proofs.Marks.{still_used, lowered_more, lowered_other, lowered_all, counted_all}
use Rattle.qpack_table.proofs.dynamic.block.lower_uses.Goals.{in-Some, in_default}
use Rattle.qpack_table.proofs.dynamic.block.lower_uses.Goals as goal

pub lower_uses-requires : goal.lower_uses-requires
lower_uses-requires g c =
    let used = still_used _ _ _ c.args.references.now _ c.loop-absolute.absolute-index c.in-Some.position
    c.index_mut.result.now c.requires c.loop-absolute.invariant (omega arith) c.in-Some.ensures.found.0
    c.in-Some.ensures.found.1 c.index_mut.ensures.value in omega (arith, used)

pub loop-absolute-preserved : goal.loop-absolute-preserved
loop-absolute-preserved g c = elim c.match-position_of.branch [
  | in-Some w ↦ lowered_more _ _ _ _ c.args.references.now _ c.loop-absolute.absolute-index w.in-Some.position
      w.index_mut.result.now _ c.loop-absolute.invariant (omega arith) w.in-Some.ensures.found.0
      w.in-Some.ensures.found.1 w.index_mut.ensures.value refl (rw (w.entries-is, w.lower_uses.ensures) refl)
  | in_default w ↦ lowered_other _ _ _ _ c.args.references.now _ c.loop-absolute.absolute-index
      c.loop-absolute.invariant (omega arith) w.in_default.ensures.none (rw w.entries-is refl)
]

pub returns-clause-lowered : goal.returns-clause-lowered
returns-clause-lowered g c = lowered_all _ _ _ _ c.loop-absolute.absolute-index c.loop-absolute.invariant (omega arith)

pub returns-clause-counted : goal.returns-clause-counted
returns-clause-counted g c = counted_all _ _ _ _ c.loop-absolute.absolute-index c.loop-absolute.invariant (omega arith)
