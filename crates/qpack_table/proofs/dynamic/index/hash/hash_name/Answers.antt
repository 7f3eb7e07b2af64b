use Rattle.std.proofs.Common.{rules}
use Rattle.qpack_table.specs.Hashes.{name_hash}
use Rattle.qpack_table.proofs.dynamic.index.hash.hash_name.Goals as goal

pub returns : goal.returns
unfolding name_hash
returns c = search rules
