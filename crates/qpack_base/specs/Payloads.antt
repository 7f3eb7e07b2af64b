-- What readers of Huffman coded payloads answer, and which bits they leave.
use Rattle.std.specs.Prelude.{◌≡◌, ℕ, ◌-◌, ◌*◌, ◌/◌, ◌^◌, ◌%◌, ◌<◌, ◌≤◌, ◌⊎◌, List, [], ◌++◌, Option, Some, None}
use Rattle.std.specs.Prelude.{Result, Ok, Err, length, ◌+◌, ◌∷◌, take, vec_len, vec_capacity}
use Rattle.std.specs.declared.vec.Vec.{Vec}
use Rattle.qpack_spec.specs.Huffman.{HuffmanFault, bits_of, bits_of_bytes, code_of, AreBytes, bits_of_text, item_at}
use Rattle.qpack_spec.specs.Huffman.{text_of_bits}
use Rattle.qpack_spec.specs.Huffman as huffman
use Rattle.qpack_base.specs.declared.prefix_string.decoding.HuffmanDecodingError.{HuffmanDecodingError}
use Rattle.qpack_base.specs.declared.prefix_string.decoding.HuffmanDecodingError.TheVariants.{MissingBits, Unhandled}
use Rattle.qpack_base.specs.declared.prefix_string.decoding.Bits.{Bits}
use Rattle.qpack_base.specs.declared.prefix_string.ahead.Ahead.{Ahead}
use Rattle.qpack_base.specs.declared.prefix_string.ahead.Codes.{Codes}

-- the fault that an error stands for
abbrev pub huffman_fault_of : HuffmanDecodingError → HuffmanFault
huffman_fault_of (MissingBits window) = huffman.MissingBits
huffman_fault_of (Unhandled window value) = huffman.Unhandled

-- the bits that are still to be read
abbrev pub bits_left : Bits → List ℕ
bits_left b = bits_of b.count b.loaded ++ bits_of_bytes b.rest.now

-- no other bits are loaded
pub record IsLoaded (b : Bits) : Type 0 where
  pub fits : b.loaded < 2 ^ b.count
  pub few : b.count < 64

-- enough bits for every code are loaded, or all that are left
abbrev pub IsFull : Bits → Type 0
IsFull b = (32 ≤ b.count) ⊎ (b.rest.now ≡ [])

-- so many of the loaded bits were passed, and nothing else
pub record KeepsRest (bits : ℕ) (old new : Bits) : Type 0 where
  pub count : new.count ≡ old.count - bits
  pub loaded : new.loaded ≡ old.loaded % 2 ^ (old.count - bits)
  pub rest : new.rest.now ≡ old.rest.now

-- what a reader of a code answers, and which bits it leaves
abbrev pub ReadsCode : List ℕ → List ℕ → Result ℕ HuffmanDecodingError → Result (ℕ × List ℕ) HuffmanFault → Type 0
ReadsCode old new (Ok b) read = read ≡ Ok (b, new)
ReadsCode old new (Err e) read = (read ≡ Err (huffman_fault_of e)) × (new ≡ [])

-- an item of the iterator, as the definition of payloads has it
abbrev pub item_of : Option (Result ℕ HuffmanDecodingError) → Option (Result ℕ HuffmanFault)
item_of None = None
item_of (Some (Ok b)) = Some (Ok b)
item_of (Some (Err e)) = Some (Err (huffman_fault_of e))

-- what comes next of the bits: their end, a byte or a fault, and the bits behind it
pub record GivesItem (old : List ℕ) (item : Option (Result ℕ HuffmanDecodingError)) (new : List ℕ) : Type 0 where
  pub is : item_of item ≡ (item_at old).0
  pub left : new ≡ (item_at old).1

-- ---- a whole payload

-- the bits that are still to be read, where the loaded ones are the highest
abbrev pub bits_ahead : Ahead → List ℕ
bits_ahead a = bits_of a.count (a.loaded / 2 ^ (64 - a.count)) ++ bits_of_bytes a.rest.now

-- no other bits are loaded: below them there are zeros
pub record IsAhead (a : Ahead) : Type 0 where
  pub few : a.count < 64
  pub zeros : a.loaded ≡ a.loaded / 2 ^ (64 - a.count) * 2 ^ (64 - a.count)

-- the highest bits of `count` are the code of the byte, if there are so many as it has (RFC 7541, Appendix B)
pub record BeginsCode (count loaded byte bits : ℕ) : Type 0 where
  pub byte_is : bits ≤ count → byte < 256
  pub is : bits ≤ count → code_of byte ≡ bits_of bits (loaded / 2 ^ (count - bits))

-- the bytes of the codes
abbrev pub bytes_of_codes : Codes → List ℕ
bytes_of_codes c = take c.count (c.first ∷ c.second ∷ [])

-- so many of the highest bits of `count` are the codes of the bytes, one after the other
pub record BeginsCodes (count loaded bits : ℕ) (bytes : List ℕ) : Type 0 where
  pub are : AreBytes bytes
  pub some : 1 ≤ length bytes
  pub there : bits ≤ count
  pub is : bits_of_text bytes ≡ bits_of bits (loaded / 2 ^ (count - bits))

-- the bits passed are the codes of the bytes appended (RFC 7541, section 5.2)
pub record PassesCodes (old new items appended : List ℕ) : Type 0 where
  pub text : List ℕ
  pub are : AreBytes text
  pub bits : old ≡ bits_of_text text ++ new
  pub append : appended ≡ items ++ text

-- there is room for the longest text of what is ahead, since no code has fewer than five bits
abbrev pub FitsAhead : {A : Type 0} → Ahead → Vec ℕ A → Type 0
FitsAhead a text = length (bits_ahead a) ≤ 5 * (vec_capacity text - vec_len text) + 4

-- codes were passed, one at least, and their bytes appended; there is still room for what is left
pub record PushesCodes {A : Type 0} (old new : Ahead) (text longer : Vec ℕ A) : Type 0 where
  pub ahead : IsAhead new
  pub passes : PassesCodes (bits_ahead old) (bits_ahead new) text.items longer.items
  pub fits : FitsAhead new longer
  pub len : vec_len text < vec_len longer
  pub capacity : vec_capacity longer ≡ vec_capacity text

-- what is left after codes that were passed, if any were
abbrev pub PushesNext : {A : Type 0} → Ahead → Option Ahead → Vec ℕ A → Vec ℕ A → Type 0
PushesNext old None text longer = longer ≡ text
PushesNext old (Some new) text longer = PushesCodes old new text longer

-- there is room for the longest text of bits that are so many, since no code has fewer than five; or for the one that
-- they mean
abbrev pub HasRoom : List ℕ → ℕ → Type 0
HasRoom bits free = (length bits ≤ 5 * free + 4)
    ⊎ ((value : List ℕ) × (text_of_bits bits ≡ Ok value) × (length value ≤ free))
