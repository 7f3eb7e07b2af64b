use Rattle.std.proofs.Common.{rules}
use Rattle.qpack_table.specs.Hashes.{words_hash}
use Rattle.qpack_table.proofs.dynamic.index.hash.hash_words.Goals as goal

pub returns : goal.returns
unfolding words_hash
returns c = search rules
