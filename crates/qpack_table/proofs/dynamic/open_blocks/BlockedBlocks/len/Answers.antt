use Rattle.std.proofs.Common.{length, sym, ap, ◌∙◌}
use Rattle.qpack_table.specs.BlockedBlocks.{BlockedKeys, counts_of}
use Rattle.qpack_table.proofs.BlockedBlocks.{length_counts}
use Rattle.qpack_table.proofs.dynamic.open_blocks.BlockedBlocks.len.Goals as goal

pub returns : goal.returns
returns c = c.len.ensures.len
    ∙ sym (length_counts (record { kept = c.self.inside.kept; keys = c.self.inside.keys.keys }) c.self.invariant)
    ∙ ap (λ (b : BlockedKeys). length (counts_of b)) c.self.view_is
