-- The blocks that are to be acknowledged, as the code keeps them.
use Rattle.std.specs.Prelude.{ℕ, List, map}
use Rattle.std.specs.Global.{Vec}
use Rattle.qpack_spec.specs.Table as table
use Rattle.qpack_table.specs.Commits.{in_order}
use Rattle.qpack_table.specs.declared.dynamic.open_blocks.CommitKey.{CommitKey}

-- a block that is found by its stream
abbrev pub block_of : CommitKey × Vec ℕ → table.UnacknowledgedBlock
block_of e = record { stream = e.0.number; entries = e.1.items }

-- the blocks in the order of their commits, after this many were opened
abbrev pub blocks_of : ℕ → List (CommitKey × Vec ℕ) → List table.UnacknowledgedBlock
blocks_of opened es = map block_of (in_order opened es)
