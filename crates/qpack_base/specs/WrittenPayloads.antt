-- What writers of Huffman coded payloads append.
use Rattle.std.specs.Prelude.{◌≡◌, ℕ, ◌+◌, ◌*◌, ◌<◌, ◌≤◌, List, ◌++◌, length}
use Rattle.qpack_spec.specs.Huffman.{bits_of, bits_of_bytes, bits_of_text, ones, AreBytes}
use Rattle.qpack_base.specs.declared.prefix_string.encoding.Pending.{Pending}

-- the bytes appended are this many of the number's lowest bits
pub record AddsBits (count loaded : ℕ) (old new : List ℕ) : Type 0 where
  pub bytes : List ℕ
  pub are : AreBytes bytes
  pub items : new ≡ old ++ bytes
  pub bits : bits_of_bytes bytes ≡ bits_of count loaded

-- the bytes appended are these bits, filled up with fewer than eight ones
pub record AddsLast (whole : List ℕ) (old new : List ℕ) : Type 0 where
  pub bytes : List ℕ
  pub padding : ℕ
  pub are : AreBytes bytes
  pub items : new ≡ old ++ bytes
  pub few : padding < 8
  pub bits : bits_of_bytes bytes ≡ whole ++ ones padding

-- the bytes appended and then the lowest `left` bits of a number are these bits
pub record HasAdded (whole : List ℕ) (left number : ℕ) (old new : List ℕ) : Type 0 where
  pub bytes : List ℕ
  pub are : AreBytes bytes
  pub items : new ≡ old ++ bytes
  pub bits : bits_of_bytes bytes ++ bits_of left number ≡ whole

-- the codes of the text follow the bits, as far as 64 bits hold them (RFC 7541, Appendix B)
pub record AddsCodes (text : List ℕ) (old new : Pending) : Type 0 where
  pub count : new.count ≡ old.count + length (bits_of_text text)
  pub most : new.count ≤ old.count + 30 * length text
  pub bits : new.count ≤ 64 → bits_of new.count new.bits ≡ bits_of old.count old.bits ++ bits_of_text text
