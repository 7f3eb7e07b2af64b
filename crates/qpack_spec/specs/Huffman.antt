-- The Huffman code of string literals (RFC 7541, section 5.2 and Appendix B).
use Rattle.std.specs.Prelude.{◌≡◌, ℕ, zero, suc, ◌+◌, ◌-◌, ◌*◌, ◌/◌, ◌%◌, ◌^◌, ◌<◌, ◌↔◌, Bool, true, false, List, []}
use Rattle.std.specs.Prelude.{◌∷◌, ◌++◌, length, take, drop, slice_index, slice_index_or, Option, Some, None, Result}
use Rattle.std.specs.Prelude.{Ok, Err, nat_lt, ◌==◌, if◌then◌else◌}
use Rattle.std.specs.List.{flat_map, AllByRecursion, list_any, count_by, position_or_len}

-- why a payload is malformed: after its last code come thirty ones (`Unhandled`), or they don't
pub data HuffmanFault : Type 0 where
  MissingBits : HuffmanFault
  Unhandled : HuffmanFault

-- ---- bits

-- this many of the lowest bits of a number, the highest of them first
unfoldable pub bits_of : ℕ → ℕ → List ℕ
bits_of zero n = []
bits_of (suc k) n = (n / 2 ^ k % 2) ∷ bits_of k n

-- the bits of bytes, the highest of each byte first
abbrev pub bits_of_bytes : List ℕ → List ℕ
bits_of_bytes bytes = flat_map (bits_of 8) bytes

-- this many ones
unfoldable pub ones : ℕ → List ℕ
ones zero = []
ones (suc k) = 1 ∷ ones k

-- the numbers are bytes
abbrev pub AreBytes : List ℕ → Type 0
AreBytes bytes = AllByRecursion (λ b. b < 256) bytes

-- ---- the code

-- the bytes whose codes have one bit, two bits, and so on to thirty, in rising order (Appendix B)
unfoldable pub bytes_by_length : List (List ℕ)
bytes_by_length =
    [] ∷
    [] ∷
    [] ∷
    [] ∷
    (48 ∷ 49 ∷ 50 ∷ 97 ∷ 99 ∷ 101 ∷ 105 ∷ 111 ∷ 115 ∷ 116 ∷ []) ∷
    (32 ∷ 37 ∷ 45 ∷ 46 ∷ 47 ∷ 51 ∷ 52 ∷ 53 ∷ 54 ∷ 55 ∷ 56 ∷ 57 ∷ 61 ∷ 65 ∷ 95 ∷ 98 ∷ 100 ∷ 102 ∷ 103 ∷ 104 ∷ 108 ∷ 109
    ∷ 110 ∷ 112 ∷ 114 ∷ 117 ∷ []) ∷
    (58 ∷ 66 ∷ 67 ∷ 68 ∷ 69 ∷ 70 ∷ 71 ∷ 72 ∷ 73 ∷ 74 ∷ 75 ∷ 76 ∷ 77 ∷ 78 ∷ 79 ∷ 80 ∷ 81 ∷ 82 ∷ 83 ∷ 84 ∷ 85 ∷ 86 ∷ 87
    ∷ 89 ∷ 106 ∷ 107 ∷ 113 ∷ 118 ∷ 119 ∷ 120 ∷ 121 ∷ 122 ∷ []) ∷
    (38 ∷ 42 ∷ 44 ∷ 59 ∷ 88 ∷ 90 ∷ []) ∷
    [] ∷
    (33 ∷ 34 ∷ 40 ∷ 41 ∷ 63 ∷ []) ∷
    (39 ∷ 43 ∷ 124 ∷ []) ∷
    (35 ∷ 62 ∷ []) ∷
    (0 ∷ 36 ∷ 64 ∷ 91 ∷ 93 ∷ 126 ∷ []) ∷
    (94 ∷ 125 ∷ []) ∷
    (60 ∷ 96 ∷ 123 ∷ []) ∷
    [] ∷
    [] ∷
    [] ∷
    (92 ∷ 195 ∷ 208 ∷ []) ∷
    (128 ∷ 130 ∷ 131 ∷ 162 ∷ 184 ∷ 194 ∷ 224 ∷ 226 ∷ []) ∷
    (153 ∷ 161 ∷ 167 ∷ 172 ∷ 176 ∷ 177 ∷ 179 ∷ 209 ∷ 216 ∷ 217 ∷ 227 ∷ 229 ∷ 230 ∷ []) ∷
    (129 ∷ 132 ∷ 133 ∷ 134 ∷ 136 ∷ 146 ∷ 154 ∷ 156 ∷ 160 ∷ 163 ∷ 164 ∷ 169 ∷ 170 ∷ 173 ∷ 178 ∷ 181 ∷ 185 ∷ 186 ∷ 187
    ∷ 189 ∷ 190 ∷ 196 ∷ 198 ∷ 228 ∷ 232 ∷ 233 ∷ []) ∷
    (1 ∷ 135 ∷ 137 ∷ 138 ∷ 139 ∷ 140 ∷ 141 ∷ 143 ∷ 147 ∷ 149 ∷ 150 ∷ 151 ∷ 152 ∷ 155 ∷ 157 ∷ 158 ∷ 165 ∷ 166 ∷ 168
    ∷ 174 ∷ 175 ∷ 180 ∷ 182 ∷ 183 ∷ 188 ∷ 191 ∷ 197 ∷ 231 ∷ 239 ∷ []) ∷
    (9 ∷ 142 ∷ 144 ∷ 145 ∷ 148 ∷ 159 ∷ 171 ∷ 206 ∷ 215 ∷ 225 ∷ 236 ∷ 237 ∷ []) ∷
    (199 ∷ 207 ∷ 234 ∷ 235 ∷ []) ∷
    (192 ∷ 193 ∷ 200 ∷ 201 ∷ 202 ∷ 205 ∷ 210 ∷ 213 ∷ 218 ∷ 219 ∷ 238 ∷ 240 ∷ 242 ∷ 243 ∷ 255 ∷ []) ∷
    (203 ∷ 204 ∷ 211 ∷ 212 ∷ 214 ∷ 221 ∷ 222 ∷ 223 ∷ 241 ∷ 244 ∷ 245 ∷ 246 ∷ 247 ∷ 248 ∷ 250 ∷ 251 ∷ 252 ∷ 253 ∷ 254
    ∷ []) ∷
    (2 ∷ 3 ∷ 4 ∷ 5 ∷ 6 ∷ 7 ∷ 8 ∷ 11 ∷ 12 ∷ 14 ∷ 15 ∷ 16 ∷ 17 ∷ 18 ∷ 19 ∷ 20 ∷ 21 ∷ 23 ∷ 24 ∷ 25 ∷ 26 ∷ 27 ∷ 28 ∷ 29
    ∷ 30 ∷ 31 ∷ 127 ∷ 220 ∷ 249 ∷ []) ∷
    [] ∷
    (10 ∷ 13 ∷ 22 ∷ []) ∷
    []

-- the bytes whose codes have this many bits
unfoldable pub bytes_of_length : ℕ → List ℕ
bytes_of_length zero = []
bytes_of_length (suc n) = slice_index_or bytes_by_length n []

-- the first code of each length, as a number: the last code of the shorter length and one, shifted left by a bit
unfoldable pub first_code : ℕ → ℕ
first_code zero = 0
first_code (suc n) = 2 * (first_code n + length (bytes_of_length n))

-- how many bits the code of a byte has
unfoldable pub code_length : ℕ → ℕ
code_length b = suc (position_or_len (λ bytes. list_any (λ c. c == b) bytes) bytes_by_length)

-- the code of a byte: the first code of its length plus the number of smaller bytes whose codes are as long
unfoldable pub code_of : ℕ → List ℕ
code_of b =
    let n = code_length b in
    bits_of n (first_code n + count_by (λ c. nat_lt c b) (bytes_of_length n))

-- the codes of a text, joined
abbrev pub bits_of_text : List ℕ → List ℕ
bits_of_text text = flat_map code_of text

-- ---- payloads (section 5.2)

-- the bits mean the text: they are its codes, and then fewer than eight ones
pub record BitsMean (bits text : List ℕ) : Type 0 where
  pub bytes : AreBytes text
  pub padding : ℕ
  pub few : padding < 8
  pub parts : bits ≡ bits_of_text text ++ ones padding

-- the bits are malformed: after the longest list of codes at their front comes a rest that doesn't end a text
pub record BitsMeanNothing (bits : List ℕ) (fault : HuffmanFault) : Type 0 where
  pub text : List ℕ
  pub rest : List ℕ
  pub bytes : AreBytes text
  pub parts : bits ≡ bits_of_text text ++ rest
  pub no_code : (b : ℕ) (more : List ℕ) → b < 256 → rest ≡ code_of b ++ more → ⊥
  pub no_end : (k : ℕ) → k < 8 → rest ≡ ones k → ⊥
  pub eos : (fault ≡ Unhandled) ↔ ((more : List ℕ) × (rest ≡ ones 30 ++ more))

-- the payload means the text
abbrev pub PayloadMeans : List ℕ → List ℕ → Type 0
PayloadMeans payload text = BitsMean (bits_of_bytes payload) text

-- the payload is malformed
abbrev pub PayloadMeansNothing : List ℕ → HuffmanFault → Type 0
PayloadMeansNothing payload fault = BitsMeanNothing (bits_of_bytes payload) fault

-- ---- the written payload

-- the number with these bits, after those of n
unfoldable pub number_from : ℕ → List ℕ → ℕ
number_from n [] = n
number_from n (bit ∷ bits) = number_from (2 * n + bit) bits

-- the first bits in this many bytes, the last of them filled up with ones
unfoldable pub bytes_of_bits : ℕ → List ℕ → List ℕ
bytes_of_bits zero bits = []
bytes_of_bits (suc k) bits = number_from 0 (take 8 (bits ++ ones 8)) ∷ bytes_of_bits k (drop 8 bits)

-- the payload of a text: its codes in as few bytes as hold them
unfoldable pub payload_of : List ℕ → List ℕ
payload_of text = bytes_of_bits ((length (bits_of_text text) + 7) / 8) (bits_of_text text)

-- ---- the meaning of a payload, as reading from left to right

-- The first byte of a list of bits: `number` are the bits before them, `next` the number after the last code that is as
-- long as those, and the rows are the bytes of the greater lengths.
unfoldable pub code_at : List (List ℕ) → ℕ → ℕ → List ℕ → Result (ℕ × List ℕ) HuffmanFault
code_at [] number next bits = Err Unhandled
code_at (bytes ∷ more) number next [] = Err MissingBits
code_at (bytes ∷ more) number next (bit ∷ bits) =
    if nat_lt (2 * number + bit) (2 * next + length bytes)
    then Ok (slice_index bytes (2 * number + bit - 2 * next), bits)
    else code_at more (2 * number + bit) (2 * next + length bytes) bits

-- whether the bits are fewer than k, and all of them ones
unfoldable pub is_padding : ℕ → List ℕ → Bool
is_padding zero bits = false
is_padding (suc k) [] = true
is_padding (suc k) (bit ∷ bits) = if bit == 1 then is_padding k bits else false

-- a code that was read, or its fault, as an item, and the bits after it: none after a fault
abbrev pub item_of : Result (ℕ × List ℕ) HuffmanFault → Option (Result ℕ HuffmanFault) × List ℕ
item_of (Ok x) = (Some (Ok x.0), x.1)
item_of (Err fault) = (Some (Err fault), [])

-- what comes next of a payload's bits: their end, a byte or a fault, and the bits after it
unfoldable pub item_at : List ℕ → Option (Result ℕ HuffmanFault) × List ℕ
item_at bits = if is_padding 8 bits then (None, []) else item_of (code_at bytes_by_length 0 0 bits)

-- the text with a list in front
abbrev pub with_front : List ℕ → Result (List ℕ) HuffmanFault → Result (List ℕ) HuffmanFault
with_front front (Ok text) = Ok (front ++ text)
with_front front (Err fault) = Err fault

-- the text after an item, where `more` reads the bits that follow
abbrev pub text_after : Option (Result ℕ HuffmanFault) → Result (List ℕ) HuffmanFault → Result (List ℕ) HuffmanFault
text_after None more = Ok []
text_after (Some (Ok b)) more = with_front (b ∷ []) more
text_after (Some (Err fault)) more = Err fault

-- the text of bits, of fewer than k bytes
unfoldable pub text_at : ℕ → List ℕ → Result (List ℕ) HuffmanFault
text_at zero bits = Ok []
text_at (suc k) bits = text_after (item_at bits).0 (text_at k (item_at bits).1)

-- the text that bits mean, or why they are malformed
unfoldable pub text_of_bits : List ℕ → Result (List ℕ) HuffmanFault
text_of_bits bits = text_at (suc (length bits)) bits
