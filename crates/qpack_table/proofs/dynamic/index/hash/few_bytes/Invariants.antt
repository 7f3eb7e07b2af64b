use Rattle.std.proofs.Common.{◌≡◌, take}
use Rattle.qpack_table.specs.Hashes.{few_bytes}
use Rattle.qpack_table.proofs.dynamic.index.hash.few_bytes.Given as goal

abbrev pub invariant-loop-byte : goal.invariant-loop-byte
invariant-loop-byte l = l.word ≡ few_bytes (take l.byte-index l.bytes)
