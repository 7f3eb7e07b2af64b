use Rattle.std.proofs.Common.{◌≡◌, ◌/◌, length}
use Rattle.qpack_table.specs.Hashes.{bytes_hash, pieces_hash}
use Rattle.qpack_table.proofs.dynamic.index.hash.hash_bytes.Given as goal

abbrev pub invariant-loop-piece : goal.invariant-loop-piece
invariant-loop-piece l = pieces_hash l.factor (length l.rest / 16) l.hash l.rest ≡ bytes_hash l.factor l.start l.bytes

abbrev pub decreases-loop-piece : goal.decreases-loop-piece
decreases-loop-piece l = length l.rest
