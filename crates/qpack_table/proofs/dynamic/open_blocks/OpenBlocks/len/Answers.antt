use Rattle.std.proofs.Common.{List, length, sym, ap, ◌∙◌}
use Rattle.qpack_spec.specs.Table.{UnacknowledgedBlock}
use Rattle.qpack_table.proofs.OpenBlocks.{length_blocks}
use Rattle.qpack_table.proofs.dynamic.open_blocks.OpenBlocks.len.Goals as goal

pub returns : goal.returns
returns c = c.len.ensures.len ∙ sym (length_blocks _ _ c.self.invariant)
    ∙ ap (λ (l : List UnacknowledgedBlock). length l) c.self.view_is
