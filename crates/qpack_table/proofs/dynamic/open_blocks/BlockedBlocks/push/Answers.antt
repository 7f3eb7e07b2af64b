use Rattle.std.proofs.Common.{refl, arith}
use Rattle.qpack_table.specs.BlockedBlocks.{BlockedKeys, next_key}
use Rattle.qpack_table.proofs.BlockedBlocks.{numbered_pushed, kept_behind, counts_pushed}
use Rattle.qpack_table.proofs.dynamic.open_blocks.BlockedBlocks.push.Goals as goal

pub invariant_of-self-2 : goal.invariant_of-self-2
invariant_of-self-2 c =
    let old : BlockedKeys = record { kept = c.self.inside.kept; keys = c.self.inside.keys.keys } in
    numbered_pushed (next_key c.args.required old) c.self.inside.kept _ _ c.self.invariant refl (omega arith)
    c.in_ok-insert.ensures.keys

pub returns-clause-kept : goal.returns-clause-kept
returns-clause-kept c = rw (← c.self.view_is) (kept_behind c.args.required _ _ c.self.invariant
    c.in_ok-insert.ensures.keys)

pub returns-clause-counts : goal.returns-clause-counts
returns-clause-counts c = rw (← c.self.view_is) (counts_pushed c.args.required _ _ c.self.invariant
    c.in_ok-insert.ensures.keys)
