use Rattle.std.proofs.Common.{ℕ, ap, ◌∙◌, arith}
use Rattle.qpack_table.specs.Hashes.{words_hash}
use Rattle.qpack_table.proofs.Products.{short_few, short_long}
use Rattle.qpack_table.proofs.dynamic.index.hash.hash_short.Goals as goal

pub returns-in_default : goal.returns-in_default
returns-in_default c =
    c.hash_words.ensures ∙ ap (λ (w : ℕ). words_hash c.args.factor c.args.hash w 0) c.few_bytes.ensures
    ∙ short_few c.args.factor c.args.hash c.args.rest.now c.in_default.ensures.cases

pub returns : goal.returns
returns c =
    c.hash_words-2.ensures
    ∙ (λ i. words_hash c.args.factor c.args.hash ((c.from.ensures ∙ c.from_le_bytes-low.ensures) i)
    ((c.from-2.ensures ∙ c.from_le_bytes-high.ensures) i))
    ∙ short_long c.args.factor c.args.hash c.args.rest.now _ _ (omega (arith, c.in-Some.ensures.cases.2))
    c.in-Some.ensures.cases.0 c.in-Some-split_last_chunk.ensures.cases.1
