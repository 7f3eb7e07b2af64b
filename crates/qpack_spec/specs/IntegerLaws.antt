-- What every reader of integers relies on, as statements; the crate's law functions promise them.
use Rattle.std.specs.Prelude.{◌≡◌, ℕ, ◌+◌, ◌-◌, ◌^◌, ◌<◌, ◌≤◌, ◌⊎◌, ◌↔◌, List, ◌++◌, length, Ok, Err}
use Rattle.qpack_spec.specs.Bytes.{Begins}
use Rattle.qpack_spec.specs.Integer.{Overflow, UnexpectedEnd, full, StandsFor, SpellsInteger, OverflowsInteger}
use Rattle.qpack_spec.specs.Integer.{TruncatesInteger, integer_at, written_integer}

-- one spelling is of one value, under one list of flags
abbrev pub IntegersHaveOneValue : Type 0
IntegersHaveOneValue =
    (n : ℕ) (encoding : List ℕ) (f g v w : ℕ) → SpellsInteger n encoding f v → SpellsInteger n encoding g w → (f ≡ g)
    × (v ≡ w)

-- a spelling or a refusal
abbrev pub EndsInteger : ℕ → List ℕ → Type 0
EndsInteger n encoding = ((flags : ℕ) × (value : ℕ) × SpellsInteger n encoding flags value)
    ⊎ OverflowsInteger n encoding

-- no spelling or refusal begins another
abbrev pub NoIntegerBeginsAnother : Type 0
NoIntegerBeginsAnother = (n : ℕ) (a b x y : List ℕ) → EndsInteger n a → EndsInteger n b → a ++ x ≡ b ++ y → a ≡ b

-- what can be written: a prefix of 1 to 8 bits, flags that fit above it, a number of 64 bits
pub record IsWritable (n flags value : ℕ) : Type 0 where
  pub least : 1 ≤ n
  pub most : n ≤ 8
  pub high : flags < 2 ^ (8 - n)
  pub low : value < 2 ^ 64

-- the written spelling means its flags and value, and no shorter byte list does
abbrev pub WrittenIntegersAreShortest : Type 0
WrittenIntegersAreShortest =
    (n flags value : ℕ) → IsWritable n flags value
    → StandsFor n (written_integer n flags value) flags value
    × ((encoding : List ℕ) → StandsFor n encoding flags value → length (written_integer n flags value)
    ≤ length encoding)

-- up to the greatest value that is read, 2^63 + 2^n - 2, it is a spelling, and is read back whole, whatever follows
abbrev pub WrittenIntegersAreReadBack : Type 0
WrittenIntegersAreReadBack =
    (n flags value : ℕ) → IsWritable n flags value → value < 2 ^ 63 + full n
    → SpellsInteger n (written_integer n flags value) flags value
    × ((rest encoding more : List ℕ) (f v : ℕ) → SpellsInteger n encoding f v
    → written_integer n flags value ++ rest ≡ encoding ++ more
    → (f ≡ flags) × (v ≡ value) × (more ≡ rest))

-- reading from left to right finds exactly the spelling at the front
abbrev pub ReadingFindsSpellings : Type 0
ReadingFindsSpellings =
    (n : ℕ) (bytes : List ℕ) (flags value : ℕ) (rest : List ℕ)
    → (integer_at n bytes ≡ Ok (flags, value, rest)) ↔ ((encoding : List ℕ) × (bytes ≡ encoding ++ rest)
    × SpellsInteger n encoding flags value)

-- each fault is found exactly if the bytes have it
abbrev pub ReadingFindsFaults : Type 0
ReadingFindsFaults =
    (n : ℕ) (bytes : List ℕ)
    → ((integer_at n bytes ≡ Err Overflow) ↔ Begins (OverflowsInteger n) bytes)
    × ((integer_at n bytes ≡ Err UnexpectedEnd) ↔ TruncatesInteger n bytes)
