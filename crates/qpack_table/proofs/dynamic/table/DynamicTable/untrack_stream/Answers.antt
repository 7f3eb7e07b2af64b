use Rattle.std.proofs.Common.{sym, ◌∙◌, arith}
use Rattle.qpack_table.proofs.Released.{taken_so, refused_so, cancelled_more, cancelled_all}
use Rattle.qpack_table.proofs.dynamic.table.DynamicTable.untrack_stream.Goals as goal

pub loop-smaller : goal.loop-smaller
loop-smaller g c =
    let more = cancelled_more _ _ c.args.stream_id
    (taken_so c.untrack_block.result _ _ c.args.stream_id c.untrack_block.ensures
    (sym c.is_ok.ensures.value ∙ c.loop-test.true)) in
    omega (arith, more.1)

pub loop-preserved : goal.loop-preserved
loop-preserved g c = (cancelled_more _ _ c.args.stream_id
    (taken_so c.untrack_block.result _ _ c.args.stream_id c.untrack_block.ensures
    (sym c.is_ok.ensures.value ∙ c.loop-test.true))).0
    ∙ c.loop.invariant

pub returns : goal.returns
returns g c =
    let refused = refused_so c.untrack_block.result _ _ c.args.stream_id c.untrack_block.ensures
    (sym c.is_ok.ensures.value ∙ c.loop-test.false) in
    rw refused.1 (cancelled_all _ c.args.stream_id refused.0 ∙ c.loop.invariant)
