use Rattle.std.proofs.Common.{subst, List, ℕ}
use Rattle.qpack_wire.specs.Blocks.{block_at, ReadsBlock}
use Rattle.qpack_wire.proofs.ReadBlocks.{found, only, refused, told}
use Rattle.qpack_wire.proofs.block.section.read_block.Goals as goal

-- what was read is what stands in the slice
read : (c : goal.After-read_whole) → ReadsBlock c.read_whole.result (block_at c.args.block.now)
read c = subst (λ (bytes : List ℕ). ReadsBlock c.read_whole.result (block_at bytes)) c.new.ensures.rest
    c.read_whole.ensures.exact

pub returns-clause-found : goal.returns-clause-found
returns-clause-found c = found c.args.block.now c.read_whole.result (read c)

pub returns-clause-only : goal.returns-clause-only
returns-clause-only c = only c.args.block.now c.read_whole.result (read c)

pub returns-clause-refused : goal.returns-clause-refused
returns-clause-refused c = refused c.args.block.now c.read_whole.result (read c)

pub returns-clause-told : goal.returns-clause-told
returns-clause-told c = told c.args.block.now c.read_whole.result (read c)
