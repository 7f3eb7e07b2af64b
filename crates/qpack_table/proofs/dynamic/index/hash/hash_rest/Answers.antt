use Rattle.std.proofs.Common.{◌∙◌, arith}
use Rattle.qpack_table.specs.Hashes.{words_hash}
use Rattle.qpack_table.proofs.Products.{rest_short, rest_long}
use Rattle.qpack_table.proofs.dynamic.index.hash.hash_rest.Goals as goal

pub returns-in_default : goal.returns-in_default
returns-in_default c =
    c.hash_short.ensures ∙ rest_short c.args.factor c.args.hash c.args.rest.now c.in_default.ensures.cases

pub returns : goal.returns
returns c =
    c.hash_words.ensures
    ∙ (λ i. words_hash c.args.factor c.args.hash (c.from_le_bytes.ensures i) (c.from_le_bytes-2.ensures i))
    ∙ rest_long c.args.factor c.args.hash c.args.rest.now _ _ (omega (arith, c.in-Some.ensures.cases.2))
    c.in-Some.ensures.cases.0 c.in-Some-split_last_chunk.ensures.cases.1
