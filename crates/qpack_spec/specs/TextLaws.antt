-- What every reader and writer of string literals relies on, as statements; the crate's law functions promise them.
use Rattle.std.specs.Prelude.{◌≡◌, ℕ, ◌+◌, ◌-◌, ◌^◌, ◌<◌, ◌≤◌, ◌⊎◌, ◌↔◌, List, ◌++◌, length, Ok, Err}
use Rattle.qpack_spec.specs.Bytes.{Begins}
use Rattle.qpack_spec.specs.Integer.{full}
use Rattle.qpack_spec.specs.Huffman.{HuffmanFault, AreBytes}
use Rattle.qpack_spec.specs.Text.{StringFault, EndsEarly, LengthOverflows, BadHuffman, SpellsString, RefusesString}
use Rattle.qpack_spec.specs.Text.{TruncatesString, string_at, Coding, payload_under, coded_string}

-- one literal is of one value, under one list of flags
abbrev pub StringsHaveOneValue : Type 0
StringsHaveOneValue =
    (n : ℕ) (encoding : List ℕ) (f g : ℕ) (v w : List ℕ) → SpellsString n encoding f v → SpellsString n encoding g w
    → (f ≡ g) × (v ≡ w)

-- a literal or a refusal
abbrev pub EndsString : ℕ → List ℕ → Type 0
EndsString n encoding =
    ((flags : ℕ) × (value : List ℕ) × SpellsString n encoding flags value)
    ⊎ ((fault : StringFault) × RefusesString n encoding fault)

-- no literal or refusal begins another
abbrev pub NoStringBeginsAnother : Type 0
NoStringBeginsAnother = (n : ℕ) (a b x y : List ℕ) → EndsString n a → EndsString n b → a ++ x ≡ b ++ y → a ≡ b

-- what can be written so that it is read back: a prefix of 2 to 8 bits, flags that fit above it, bytes, and a length of
-- the payload up to the greatest that is read
pub record IsWritableString (coding : Coding) (n flags : ℕ) (value : List ℕ) : Type 0 where
  pub least : 2 ≤ n
  pub most : n ≤ 8
  pub flags_fit : flags < 2 ^ (8 - n)
  pub bytes : AreBytes value
  pub size : length (payload_under coding value) < 2 ^ 63 + full (n - 1)

-- the written string is a literal of its value, under any coding
abbrev pub WrittenStringsAreLiterals : Type 0
WrittenStringsAreLiterals =
    (coding : Coding) (n flags : ℕ) (value : List ℕ) → IsWritableString coding n flags value
    → SpellsString n (coded_string coding n flags value) flags value

-- the written string is read back whole, whatever follows
abbrev pub WrittenStringsAreReadBack : Type 0
WrittenStringsAreReadBack =
    (coding : Coding) (n flags : ℕ) (value rest encoding more : List ℕ) (f : ℕ) (v : List ℕ)
    → IsWritableString coding n flags value → SpellsString n encoding f v
    → coded_string coding n flags value ++ rest ≡ encoding ++ more
    → (f ≡ flags) × (v ≡ value) × (more ≡ rest)

-- reading from left to right finds exactly the literal at the front
abbrev pub ReadingFindsStrings : Type 0
ReadingFindsStrings =
    (n : ℕ) (bytes : List ℕ) (flags : ℕ) (value rest : List ℕ)
    → (string_at n bytes ≡ Ok (flags, value, rest)) ↔ ((encoding : List ℕ) × (bytes ≡ encoding ++ rest)
    × SpellsString n encoding flags value)

-- each refusal is found exactly if the bytes have it
abbrev pub ReadingFindsRefusals : Type 0
ReadingFindsRefusals =
    (n : ℕ) (bytes : List ℕ)
    → ((string_at n bytes ≡ Err LengthOverflows) ↔ Begins (λ encoding. RefusesString n encoding LengthOverflows) bytes)
    × ((fault : HuffmanFault) → (string_at n bytes ≡ Err (BadHuffman fault)) ↔ Begins
    (λ encoding. RefusesString n encoding (BadHuffman fault)) bytes)

-- an early end is found exactly if no front is a literal or a refusal
abbrev pub ReadingFindsTruncation : Type 0
ReadingFindsTruncation = (n : ℕ) (bytes : List ℕ) → (string_at n bytes ≡ Err EndsEarly) ↔ TruncatesString n bytes
