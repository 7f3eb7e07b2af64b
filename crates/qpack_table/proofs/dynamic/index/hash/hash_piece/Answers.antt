use Rattle.std.proofs.Common.{rules}
use Rattle.qpack_table.specs.Hashes.{piece_hash}
use Rattle.qpack_table.proofs.dynamic.index.hash.hash_piece.Goals as goal

pub returns : goal.returns
unfolding piece_hash
returns c = search rules
