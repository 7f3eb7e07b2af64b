use Rattle.std.proofs.Common.{◌+◌, ◌∷◌, ◌++◌, [], List, refl, ap, ◌∙◌, arith}
use Rattle.qpack_spec.specs.Table.{UnacknowledgedBlock}
use Rattle.qpack_table.specs.OpenBlocks.{block_of}
use Rattle.qpack_table.specs.declared.dynamic.open_blocks.CommitKey.{CommitKey}
use Rattle.qpack_table.proofs.Commits.{numbered_more}
use Rattle.qpack_table.proofs.OpenBlocks.{pushed, few_blocks}
use Rattle.qpack_table.proofs.dynamic.open_blocks.OpenBlocks.push.Goals as goal

pub invariant_of-self-2 : goal.invariant_of-self-2
invariant_of-self-2 c =
    let key : CommitKey = record { number = c.args.stream_id; order = c.self.inside.opened } in
    numbered_more key c.args.references c.self.inside.opened _ _ c.self.invariant refl (omega arith)
    c.in_ok-insert.ensures.entries

pub returns-clause-ok : goal.returns-clause-ok
returns-clause-ok c =
    let key : CommitKey = record { number = c.args.stream_id; order = c.self.inside.opened } in
    pushed key c.args.references c.self.inside.opened _ _ c.self.invariant refl c.in_ok-insert.ensures.entries
    ∙ ap (λ (l : List UnacknowledgedBlock). l ++ block_of (key, c.args.references) ∷ []) c.self.view_is

pub returns-clause-few : goal.returns-clause-few
returns-clause-few c =
    let key : CommitKey = record { number = c.args.stream_id; order = c.self.inside.opened } in
    few_blocks (c.self.inside.opened + 1) _ (numbered_more key c.args.references c.self.inside.opened _ _
    c.self.invariant refl (omega arith) c.in_ok-insert.ensures.entries)
