-- Integers with a prefix of n bits, n from 1 to 8 (RFC 7541, section 5.1; RFC 9204, section 4.1.1).
use Rattle.std.specs.Prelude.{◌≡◌, ℕ, zero, suc, ◌+◌, ◌-◌, ◌*◌, ◌/◌, ◌%◌, ◌^◌, ◌<◌, ◌≤◌, ◌⊎◌, List, [], ◌∷◌, ◌++◌}
use Rattle.std.specs.Prelude.{length, Result, Ok, Err, nat_lt, if◌then◌else◌}
use Rattle.std.specs.List.{AllByRecursion}
use Rattle.qpack_spec.specs.Bytes.{◌>>=◌}

-- why no integer can be read
pub data IntegerFault : Type 0 where
  Overflow : IntegerFault
  UnexpectedEnd : IntegerFault

-- the greatest number of n bits
abbrev pub full : ℕ → ℕ
full n = 2 ^ n - 1

-- exactly the last byte has its high bit clear
abbrev pub EndsAtLast : List ℕ → Type 0
EndsAtLast [] = ⊥
EndsAtLast (c ∷ []) = c < 128
EndsAtLast (c ∷ d ∷ cs) = (128 ≤ c) × EndsAtLast (d ∷ cs)

-- the number in groups of seven bits, the least group first
abbrev pub groups_sum : List ℕ → ℕ
groups_sum [] = 0
groups_sum (c ∷ cs) = c % 128 + 128 * groups_sum cs

-- the value is in the prefix alone
pub record IsShort (n b : ℕ) (cs : List ℕ) (value : ℕ) : Type 0 where
  pub alone : cs ≡ []
  pub below : b % 2 ^ n < full n
  pub is : value ≡ b % 2 ^ n

-- the prefix is all ones, and the further bytes hold the rest
pub record IsLong (n b : ℕ) (cs : List ℕ) (value : ℕ) : Type 0 where
  pub prefix : b % 2 ^ n ≡ full n
  pub ends : EndsAtLast cs
  pub sum : value ≡ full n + groups_sum cs

-- the bytes mean the flags above the prefix and the value, however many bytes they are
abbrev pub StandsFor : ℕ → List ℕ → ℕ → ℕ → Type 0
StandsFor n [] flags value = ⊥
StandsFor n (b ∷ cs) flags value = (flags ≡ b / 2 ^ n) × (IsShort n b cs value ⊎ IsLong n b cs value)

-- the bytes mean the flags and the value, with at most nine further bytes: what a reader accepts
pub record SpellsInteger (n : ℕ) (encoding : List ℕ) (flags value : ℕ) : Type 0 where
  pub stands : StandsFor n encoding flags value
  pub few : length encoding ≤ 10

-- the refusal: a full prefix, and nine bytes whose high bits are all set
abbrev pub OverflowsInteger : ℕ → List ℕ → Type 0
OverflowsInteger n [] = ⊥
OverflowsInteger n (b ∷ cs) = (b % 2 ^ n ≡ full n) × (length cs ≡ 9) × AllByRecursion (λ c. 128 ≤ c) cs

-- no front is a spelling or a refusal
abbrev pub TruncatesInteger : ℕ → List ℕ → Type 0
TruncatesInteger n bytes =
    (encoding rest : List ℕ) → bytes ≡ encoding ++ rest → ((flags value : ℕ) → SpellsInteger n encoding flags value → ⊥)
    × (OverflowsInteger n encoding → ⊥)

-- ---- reading from left to right

-- at most k groups of seven bits, and the bytes after them
unfoldable pub groups_at : ℕ → List ℕ → Result (ℕ × List ℕ) IntegerFault
groups_at zero bytes = Err Overflow
groups_at (suc k) [] = Err UnexpectedEnd
groups_at (suc k) (c ∷ cs) =
    if nat_lt c 128 then Ok (c, cs) else (groups_at k cs >>= λ r. Ok (c % 128 + 128 * r.0, r.1))

-- the flags, the value, and the bytes after the integer
unfoldable pub integer_at : ℕ → List ℕ → Result (ℕ × ℕ × List ℕ) IntegerFault
integer_at n [] = Err UnexpectedEnd
integer_at n (b ∷ cs) =
    if nat_lt (b % 2 ^ n) (full n) then Ok (b / 2 ^ n, b % 2 ^ n, cs) else
    (groups_at 9 cs >>= λ r. Ok (b / 2 ^ n, full n + r.0, r.1))

-- ---- the written spelling

-- a number in groups of seven bits, at most k + 1 of them
unfoldable pub written_groups : ℕ → ℕ → List ℕ
written_groups zero value = value ∷ []
written_groups (suc k) value =
    if nat_lt value 128 then value ∷ [] else ((128 + value % 128) ∷ written_groups k (value / 128))

-- the shortest spelling, the flags cut to the bits above the prefix; ten groups hold every number below 2^64
unfoldable pub written_integer : ℕ → ℕ → ℕ → List ℕ
written_integer n flags value =
    let high = (flags % 2 ^ (8 - n)) * 2 ^ n in
    if nat_lt value (full n) then (high + value) ∷ [] else ((high + full n) ∷ written_groups 9 (value - full n))
