-- String literals with a prefix of n bits, n from 2 to 8: a flag, a length, and that many bytes, plain or coded (RFC
-- 7541, section 5.2; RFC 9204, section 4.1.2).
use Rattle.std.specs.Prelude.{◌≡◌, ℕ, ◌+◌, ◌-◌, ◌*◌, ◌/◌, ◌%◌, ◌⊎◌, List, ◌++◌, length, take, drop, Result, Ok, Err}
use Rattle.std.specs.Prelude.{[], ◌≢◌, ◌<◌, nat_lt, ◌==◌, if◌then◌else◌, Bool, true}
use Rattle.qpack_spec.specs.Integer.{IntegerFault, Overflow, UnexpectedEnd, SpellsInteger, OverflowsInteger, integer_at}
use Rattle.qpack_spec.specs.Integer.{written_integer}
use Rattle.qpack_spec.specs.Huffman.{HuffmanFault, bits_of_bytes, PayloadMeans, PayloadMeansNothing, text_of_bits}
use Rattle.qpack_spec.specs.Huffman.{payload_of}

-- why no string can be read
pub data StringFault : Type 0 where
  EndsEarly : StringFault
  LengthOverflows : StringFault
  BadHuffman : (fault : HuffmanFault) → StringFault

-- The length of the payload, with a prefix one bit shorter, whose lowest flag is `huffman` (1 if the payload is coded)
-- and whose other flags are `flags`; and then the payload.
pub record IsLiteral (n : ℕ) (encoding : List ℕ) (flags huffman : ℕ) (payload : List ℕ) : Type 0 where
  pub head : List ℕ
  pub parts : encoding ≡ head ++ payload
  pub spells : SpellsInteger (n - 1) head (2 * flags + huffman) (length payload)

-- a literal, plain or coded, of a payload that is not empty (RFC 9204, section 4.1.2)
pub record HoldsPayload (n : ℕ) (encoding : List ℕ) : Type 0 where
  pub flags : ℕ
  pub huffman : ℕ
  pub payload : List ℕ
  pub literal : IsLiteral n encoding flags huffman payload
  pub coding : huffman < 2
  pub some : payload ≢ []

-- the bytes are a literal of the value, plain or coded
abbrev pub SpellsString : ℕ → List ℕ → ℕ → List ℕ → Type 0
SpellsString n encoding flags value =
    IsLiteral n encoding flags 0 value ⊎ ((payload : List ℕ) × IsLiteral n encoding flags 1 payload
    × PayloadMeans payload value)

-- the bytes are refused: the length overflows, or a whole coded payload is malformed
abbrev pub RefusesString : ℕ → List ℕ → StringFault → Type 0
RefusesString n encoding EndsEarly = ⊥
RefusesString n encoding LengthOverflows = OverflowsInteger (n - 1) encoding
RefusesString n encoding (BadHuffman fault) =
    (flags : ℕ) × (payload : List ℕ) × IsLiteral n encoding flags 1 payload × PayloadMeansNothing payload fault

-- no front is a literal or a refusal
abbrev pub TruncatesString : ℕ → List ℕ → Type 0
TruncatesString n bytes =
    (encoding rest : List ℕ) → bytes ≡ encoding ++ rest
    → ((flags : ℕ) (value : List ℕ) → SpellsString n encoding flags value → ⊥)
    × ((fault : StringFault) → RefusesString n encoding fault → ⊥)

-- ---- reading from left to right

-- the value of a payload before a rest
abbrev pub value_before : ℕ → List ℕ → Result (List ℕ) HuffmanFault → Result (ℕ × List ℕ × List ℕ) StringFault
value_before flags rest (Ok value) = Ok (flags, value, rest)
value_before flags rest (Err fault) = Err (BadHuffman fault)

-- the string after its length, where the length's lowest flag says whether the payload is coded
abbrev pub payload_at : ℕ → ℕ → List ℕ → Result (ℕ × List ℕ × List ℕ) StringFault
payload_at flags len bytes =
    if nat_lt (length bytes) len then Err EndsEarly
    else value_before (flags / 2) (drop len bytes)
    (if flags % 2 == 0 then Ok (take len bytes) else text_of_bits (bits_of_bytes (take len bytes)))

-- the string whose length was read so
abbrev pub string_behind : Result (ℕ × ℕ × List ℕ) IntegerFault → Result (ℕ × List ℕ × List ℕ) StringFault
string_behind (Err Overflow) = Err LengthOverflows
string_behind (Err UnexpectedEnd) = Err EndsEarly
string_behind (Ok x) = payload_at x.0 x.1 x.2

-- the flags, the value, and the bytes after the string
unfoldable pub string_at : ℕ → List ℕ → Result (ℕ × List ℕ × List ℕ) StringFault
string_at n bytes = string_behind (integer_at (n - 1) bytes)

-- ---- the written spelling

-- which strings an encoder codes, which is its choice (RFC 9204, section 4.1.2): all of them, or those that the code
-- makes shorter
pub data Coding : Type 0 where
  Always : Coding
  WhereShorter : Coding

-- whether the value is coded
abbrev pub is_coded : Coding → List ℕ → Bool
is_coded Always value = true
is_coded WhereShorter value = nat_lt (length (payload_of value)) (length value)

-- the payload that is written of a value
abbrev pub payload_under : Coding → List ℕ → List ℕ
payload_under coding value = if is_coded coding value then payload_of value else value

-- the payload behind its length in its written spelling, the flags cut to the bits above it
abbrev pub written_literal_of : ℕ → ℕ → ℕ → List ℕ → List ℕ
written_literal_of n flags huffman payload =
    written_integer (n - 1) (2 * flags + huffman) (length payload) ++ payload

-- the written spelling under a coding
unfoldable pub coded_string : Coding → ℕ → ℕ → List ℕ → List ℕ
coded_string coding n flags value =
    if is_coded coding value then written_literal_of n flags 1 (payload_of value)
    else written_literal_of n flags 0 value

-- the same where every string is coded
abbrev pub written_string : ℕ → ℕ → List ℕ → List ℕ
written_string n flags value = coded_string Always n flags value
