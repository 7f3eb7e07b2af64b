-- The hashes by which the dynamic table's index orders its slots. Nothing is promised of how well they spread.
use Rattle.std.specs.Prelude.{ℕ, zero, suc, ◌+◌, ◌-◌, ◌*◌, ◌/◌, ◌%◌, ◌^◌, List, fold, take, drop, length, nat_le}
use Rattle.std.specs.Prelude.{if◌then◌else◌}
use Rattle.std.specs.Int.{from_le_bytes, w32, w64, w128}
use Rattle.std.specs.Int.RustNames.{bit_and, bit_or, bit_xor}
use Rattle.qpack_spec.specs.Field.{Field}

-- the two halves of a product, in one
abbrev pub folded_product : ℕ → ℕ → ℕ
folded_product a b = bit_xor (bit_and (a * b) (2 ^ 64 - 1)) (a * b / 2 ^ 64)

-- one step over two words
unfoldable pub words_hash : (factor hash low high : ℕ) → ℕ
words_hash factor hash low high = folded_product (bit_xor hash low) (bit_xor factor high)

-- a number of a few bytes, the greatest first
unfoldable pub few_bytes : List ℕ → ℕ
few_bytes bytes = fold (λ word byte. (word * 256 % 2 ^ 64 + byte) % 2 ^ 64) 0 bytes

-- one step over 16 bytes
unfoldable pub piece_hash : (factor hash : ℕ) → List ℕ → ℕ
piece_hash factor hash piece = words_hash factor hash (bit_and (from_le_bytes w128 piece) (2 ^ 64 - 1))
    (from_le_bytes w128 piece / 2 ^ 64)

-- the last step over fewer than eight: the first and the last four, which may overlap, or all
unfoldable pub short_hash : (factor hash : ℕ) → List ℕ → ℕ
short_hash factor hash rest =
    if nat_le 4 (length rest)
    then words_hash factor hash (from_le_bytes w32 (take 4 rest)) (from_le_bytes w32 (drop (length rest - 4) rest))
    else words_hash factor hash (few_bytes rest) 0

-- the last step, over fewer than sixteen: the first and the last eight, which may overlap
unfoldable pub rest_hash : (factor hash : ℕ) → List ℕ → ℕ
rest_hash factor hash rest =
    if nat_le 8 (length rest)
    then words_hash factor hash (from_le_bytes w64 (take 8 rest)) (from_le_bytes w64 (drop (length rest - 8) rest))
    else short_hash factor hash rest

-- a number of steps, and the last one
unfoldable pub pieces_hash : (factor count hash : ℕ) → List ℕ → ℕ
pieces_hash factor zero hash bytes = rest_hash factor hash bytes
pieces_hash factor (suc more) hash bytes =
    pieces_hash factor more (piece_hash factor hash (take 16 bytes)) (drop 16 bytes)

-- a number of bytes, by the second key of the seed that the factor is of
abbrev pub length_under : (factor len : ℕ) → ℕ
length_under factor len = len * bit_or (bit_xor factor 16646288086500911323) 1 % 2 ^ 64

-- the hash goes on over bytes, whose number is hashed too
unfoldable pub bytes_hash : (factor hash : ℕ) → List ℕ → ℕ
bytes_hash factor hash bytes =
    pieces_hash factor (length bytes / 16) (bit_xor hash (length_under factor (length bytes))) bytes

-- where a hash begins under a seed, and a factor of each of its products, which goes by a second key: 0 for the seed 0
abbrev pub start_of : ℕ → ℕ
start_of seed = bit_xor 11562461410679940143 seed

abbrev pub factor_of : ℕ → ℕ
factor_of seed = bit_xor 16646288086500911323 (folded_product seed 10285213230658275043)

-- 32 bits of the hash of a name under a seed
unfoldable pub name_hash : (seed : ℕ) → List ℕ → ℕ
name_hash seed name = bytes_hash (factor_of seed) (start_of seed) name / 2 ^ 32

-- 32 bits of the hash of a field under a seed, which goes on from that of its name over its value
unfoldable pub field_hash : (seed : ℕ) → Field → ℕ
field_hash seed f =
    bytes_hash (factor_of seed) (bytes_hash (factor_of seed) (start_of seed) f.name) f.value / 2 ^ 32
