use Rattle.std.proofs.Common.{refl}
use Rattle.qpack_table.proofs.OpenBlocks.{oldest_is, none_in_order}
use Rattle.qpack_table.proofs.dynamic.open_blocks.OpenBlocks.oldest.Goals as goal

pub returns-in_err-references : goal.returns-in_err-references
returns-in_err-references c = rw (
  c.from_residual.ensures,
  ← c.self.view_is,
  (none_in_order c.args.stream_id c.self.inside.opened _ c.in_err-references.ensures.none).1,
) refl

pub returns : goal.returns
returns c = oldest_is c.args.stream_id _ _ c.self.inside.opened _ _ _ c.self.invariant
    c.in_ok-references.ensures.found c.self.view_is c.as_slice.ensures.value
