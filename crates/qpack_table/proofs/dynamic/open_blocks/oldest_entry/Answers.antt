use Rattle.qpack_table.proofs.Commits.{oldest_found, oldest_elsewhere, none_found}
use Rattle.qpack_table.proofs.dynamic.open_blocks.oldest_entry.Goals as goal

pub returns-in_err-key-clause-none : goal.returns-in_err-key-clause-none
returns-in_err-key-clause-none c = rw c.from_residual.ensures (none_found c.args.blocks.now c.args.stream_id
    c.range.result
    (c.range.ensures.in_range tt) c.in_err-key.ensures.steps.0)

pub returns-then-key-stream_id-clause-found : goal.returns-then-key-stream_id-clause-found
returns-then-key-stream_id-clause-found c = oldest_found c.args.blocks.now c.args.stream_id _ _ c.range.result _
    (c.range.ensures.in_range tt) c.in_ok-key.ensures.steps c.if-key-stream_id.true

pub returns-else-key-stream_id-clause-none : goal.returns-else-key-stream_id-clause-none
returns-else-key-stream_id-clause-none c = oldest_elsewhere c.args.blocks.now c.args.stream_id _ _ c.range.result _
    (c.range.ensures.in_range tt) c.in_ok-key.ensures.steps c.if-key-stream_id.false
