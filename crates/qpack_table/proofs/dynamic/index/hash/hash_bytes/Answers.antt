use Rattle.std.proofs.Common.{ℕ, ◌/◌, length, ap, ◌∙◌, rules}
use Rattle.qpack_table.specs.Hashes.{bytes_hash, pieces_hash}
use Rattle.qpack_table.proofs.Products.{piece_taken, no_piece}
use Rattle.qpack_table.proofs.dynamic.index.hash.hash_bytes.Goals as goal

pub loop-piece-init : goal.loop-piece-init
unfolding bytes_hash
loop-piece-init c = search rules

pub loop-piece-preserved : goal.loop-piece-preserved
loop-piece-preserved c =
    let at = c.in-Some.ensures.cases in
    ap (λ (h : ℕ). pieces_hash c.args.factor (length c.in-Some.more.now / 16) h c.in-Some.more.now)
    c.hash_piece-hash.ensures
    ∙ piece_taken c.args.factor c.loop-piece.hash c.loop-piece.rest.now c.in-Some.piece.now c.in-Some.more.now
    at.0 at.1 at.2
    ∙ c.loop-piece.invariant

pub returns : goal.returns
returns c =
    c.hash_rest.ensures ∙ no_piece c.args.factor c.loop-piece.hash c.loop-piece.rest.now c.in_default.ensures.cases
    ∙ c.loop-piece.invariant
