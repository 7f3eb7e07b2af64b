use Rattle.std.proofs.Common.{refl, arith}
use Rattle.qpack_table.proofs.Marks.{cleared_more, cleared_other, cleared_all}
use Rattle.qpack_table.proofs.dynamic.block.clear_references.Goals.{in-Some, in_default}
use Rattle.qpack_table.proofs.dynamic.block.clear_references.Goals as goal

pub loop-absolute-preserved : goal.loop-absolute-preserved
loop-absolute-preserved g c = elim c.match-position_of.branch [
  | in-Some w ↦ cleared_more _ _ _ _ c.args.references.now _ c.loop-absolute.absolute-index w.in-Some.position
      w.index_mut.result.now _ c.loop-absolute.invariant (omega arith) w.in-Some.ensures.found.0
      w.in-Some.ensures.found.1 w.index_mut.ensures.value refl (rw (w.entries-is, w.clear_mark.ensures) refl)
  | in_default w ↦ cleared_other _ _ _ _ c.args.references.now _ c.loop-absolute.absolute-index
      c.loop-absolute.invariant (omega arith) w.in_default.ensures.none (rw w.entries-is refl)
]

pub returns-clause-cleared : goal.returns-clause-cleared
returns-clause-cleared g c = cleared_all _ _ _ _ c.loop-absolute.absolute-index c.loop-absolute.invariant (omega arith)
