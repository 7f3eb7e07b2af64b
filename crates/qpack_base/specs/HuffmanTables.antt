-- What the crate's tables of the Huffman code say of the code.
use Rattle.std.specs.Prelude.{◌≡◌, ℕ, ◌+◌, ◌-◌, ◌*◌, ◌/◌, ◌%◌, ◌^◌, ◌<◌, ◌≤◌, ◌⊎◌, List, [], ◌∷◌, map, take, length}
use Rattle.std.specs.Prelude.{Bool, true, ◌&&◌, nat_le, slice_index_or}
use Rattle.std.specs.Borrow.{Bor}
use Rattle.qpack_spec.specs.Huffman.{bits_of, bytes_of_length, first_code, code_of, bits_of_text}

-- the eight bits begin with the code of the entry's byte, which has as many bits as the entry says
pub record BeginsWithCode (window : ℕ) (entry : ℕ × ℕ) : Type 0 where
  pub byte : entry.0 < 256
  pub least : 1 ≤ entry.1
  pub most : entry.1 ≤ 8
  pub is : code_of entry.0 ≡ bits_of entry.1 (window / 2 ^ (8 - entry.1))

-- the entry is the byte's code: how many bits it has, and which number they are
pub record IsCodeOf (byte : ℕ) (entry : ℕ × ℕ) : Type 0 where
  pub least : 1 ≤ entry.0
  pub most : entry.0 ≤ 30
  pub fits : entry.1 < 2 ^ entry.0
  pub is : code_of byte ≡ bits_of entry.0 entry.1

-- the table of eight bits: each entry's code begins the bits of its place, below FE; the last two have more bits than
-- are ever loaded
pub record AreShortCodes (table : List (ℕ × ℕ)) : Type 0 where
  pub at : (window : ℕ) → window < 254 → BeginsWithCode window (slice_index_or table window (0, 0))
  pub past : (window : ℕ) → 254 ≤ window → window < 256 → 64 ≤ (slice_index_or table window (0, 0)).1

-- the table of codes: each entry is the code of the byte of its place
pub record AreCodes (table : List (ℕ × ℕ)) : Type 0 where
  pub at : (byte : ℕ) → byte < 256 → IsCodeOf byte (slice_index_or table byte (0, 0))

-- the bytes of the codes of an entry of the table of twelve bits: of its two highest as many as its second lowest says
abbrev pub pair_bytes : ℕ → List ℕ
pair_bytes entry = take (entry / 256 % 256) (entry / 65536 % 256 ∷ entry / 16777216 % 256 ∷ [])

-- how many bits these codes have together
abbrev pub pair_bits : ℕ → ℕ
pair_bits entry = entry % 256

-- the twelve bits begin with the codes of the bytes, one after the other, which have that many bits together
pub record BeginsWithCodes (window bits : ℕ) (bytes : List ℕ) : Type 0 where
  pub some : 1 ≤ length bytes
  pub most : bits ≤ 12
  pub is : bits_of_text bytes ≡ bits_of bits (window / 2 ^ (12 - bits))

-- the table of twelve bits: the codes of each entry's bytes begin the bits of its place, below FFC; the last four have
-- more bits than are ever loaded
pub record ArePairs (table : List ℕ) : Type 0 where
  pub at : (window : ℕ) → window < 4092
      → BeginsWithCodes window (pair_bits (slice_index_or table window 0)) (pair_bytes (slice_index_or table window 0))
  pub past : (window : ℕ) → 4092 ≤ window → window < 4096 → 64 ≤ pair_bits (slice_index_or table window 0)

-- the lengths of codes beyond eight bits
abbrev pub long_lengths : List ℕ
long_lengths = 10 ∷ 11 ∷ 12 ∷ 13 ∷ 14 ∷ 15 ∷ 19 ∷ 20 ∷ 21 ∷ 22 ∷ 23 ∷ 24 ∷ 25 ∷ 26 ∷ 27 ∷ 28 ∷ 30 ∷ []

-- a length with its first code, and the bytes whose codes have it
abbrev pub long_row : ℕ → ℕ × ℕ × List ℕ
long_row n = (n, first_code n, bytes_of_length n)

-- the code beyond eight bits
unfoldable pub long_rows : List (ℕ × ℕ × List ℕ)
long_rows = map long_row long_lengths

-- a row's codes have at most 24 bits, and are smaller than what these 24 bits begin with
abbrev pub is_smaller : ℕ → ℕ × ℕ × List ℕ → Bool
is_smaller window row = nat_le row.0 24 && nat_le ((row.1 + length row.2) * 2 ^ (24 - row.0)) window

-- so have those of all rows
unfoldable pub are_smaller : ℕ → List (ℕ × ℕ × List ℕ) → Bool
are_smaller window [] = true
are_smaller window (row ∷ rows) = is_smaller window row && are_smaller window rows

-- no code of the rows comes next, where `count` bits of `loaded` are left: there are no rows, or their codes are smaller
abbrev pub ArePassed : ℕ → ℕ → List (ℕ × ℕ × List ℕ) → Type 0
ArePassed count loaded rows = (rows ≡ []) ⊎ ((24 ≤ count) × (are_smaller (loaded / 2 ^ (count - 24)) rows ≡ true))

-- the rows behind references
abbrev pub rows_at : List (ℕ × ℕ × Bor (List ℕ)) → List (ℕ × ℕ × List ℕ)
rows_at rows = map (λ r. (r.0, r.1, r.2.now)) rows
