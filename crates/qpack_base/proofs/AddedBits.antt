-- Bytes that were appended, and the bits that are still to be.
use Rattle.std.proofs.Common.{◌≡◌, ℕ, ◌+◌, ◌-◌, ◌*◌, ◌/◌, ◌%◌, ◌^◌, ◌<◌, List, [], ◌∷◌, ◌++◌, refl, sym, ap, ◌∙◌}
use Rattle.std.proofs.Common.{arith, append_assoc, append-nil}
use Rattle.std.proofs.lemmas.List.Concat.{flat_map-cons}
use Rattle.std.proofs.lemmas.Grind.{flat_map-append}
use Rattle.std.proofs.lemmas.Nat.{pow_pos}
use Rattle.qpack_spec.specs.Huffman.{bits_of, bits_of_bytes, ones, AreBytes}
use Rattle.qpack_spec.proofs.Bits.{bits_append, bits_push, bits_cut, ones_number, no_bits}
use Rattle.qpack_base.specs.WrittenPayloads.{AddsBits, AddsLast, HasAdded}
use Rattle.qpack_base.proofs.LoadedBits.{IsFour, load_four}

pub nothing_added : (old : List ℕ) → HasAdded [] 0 0 old old
nothing_added old = record { bytes = []; are = tt; items = sym (append-nil old); bits = no_bits 0 }

pub bytes_join : (a b : List ℕ) → AreBytes a → AreBytes b → AreBytes (a ++ b)
bytes_join [] b p q = q
bytes_join (x ∷ a) b p q = (p.0, bytes_join a b p.1 q)

-- its highest bits are appended
pub added_more : (whole : List ℕ) (k m number high : ℕ) (old new more : List ℕ)
    → HasAdded whole (k + m) number old new → high ≡ number / 2 ^ m → AddsBits k high new more
    → HasAdded whole m number old more
added_more whole k m number high old new more a e b = record {
  bytes = a.bytes ++ b.bytes;
  are = bytes_join a.bytes b.bytes a.are b.are;
  items = b.items ∙ ap (λ (l : List ℕ). l ++ b.bytes) a.items ∙ append_assoc old a.bytes b.bytes;
  bits = ap (λ (l : List ℕ). l ++ bits_of m number) (flat_map-append (bits_of 8) a.bytes b.bytes)
      ∙ append_assoc (bits_of_bytes a.bytes) (bits_of_bytes b.bytes) (bits_of m number)
      ∙ ap (λ (l : List ℕ). bits_of_bytes a.bytes ++ (l ++ bits_of m number)) (b.bits ∙ ap (bits_of k) e)
      ∙ ap (λ (l : List ℕ). bits_of_bytes a.bytes ++ l) (sym (bits_append k m (k + m) number refl))
      ∙ a.bits;
}

-- the appended bits are forgotten
pub added_cut : (whole : List ℕ) (m number : ℕ) (old new : List ℕ) → HasAdded whole m number old new
    → HasAdded whole m (number % 2 ^ m) old new
added_cut whole m number old new a = record {
  bytes = a.bytes;
  are = a.are;
  items = a.items;
  bits = ap (λ (l : List ℕ). bits_of_bytes a.bytes ++ l) (bits_cut m number) ∙ a.bits;
}

-- ---- bytes of numbers

one_bits : (b : ℕ) → bits_of_bytes (b ∷ []) ≡ bits_of 8 b
one_bits b = flat_map-cons (bits_of 8) b [] ∙ append-nil (bits_of 8 b)

pub adds_byte : (x b : ℕ) (old new : List ℕ) → b ≡ x % 256 → new ≡ old ++ b ∷ [] → AddsBits 8 x old new
adds_byte x b old new e items = record {
  bytes = b ∷ [];
  are = (omega arith, tt);
  items = items;
  bits = one_bits b ∙ ap (bits_of 8) e ∙ bits_cut 8 x;
}

adds_four : (four : ℕ) (bytes old new : List ℕ) → AreBytes bytes → IsFour bytes four → new ≡ old ++ bytes
    → AddsBits 32 four old new
adds_four four bytes old new are is items =
    let z : four ≡ 0 * 4294967296 + four = omega arith in
    record {
      bytes = bytes;
      are = are;
      items = items;
      bits = ap (λ (l : List ℕ). bits_of_bytes l) (sym (append-nil bytes))
          ∙ ap (λ (l : List ℕ). l ++ bits_of_bytes (bytes ++ [])) (sym (no_bits 0))
          ∙ sym (load_four 0 0 four bytes [] is) ∙ append-nil (bits_of (0 + 32) (0 * 4294967296 + four))
          ∙ ap (bits_of 32) (sym z);
    }

-- the four bytes of a number, appended
pub four_added : (four : ℕ) (bytes old new : List ℕ) → four < 2 ^ 32
    → bytes ≡ four / 16777216 % 256 ∷ four / 65536 % 256 ∷ four / 256 % 256 ∷ four % 256 ∷ []
    → new ≡ old ++ bytes → AddsBits 32 four old new
four_added four bytes old new fits are appended =
    let is : IsFour (four / 16777216 % 256 ∷ four / 65536 % 256 ∷ four / 256 % 256 ∷ four % 256 ∷ []) four =
    record {
      four = refl;
      first = omega arith;
      second = omega arith;
      third = omega arith;
      fourth = omega arith;
      is = omega arith;
    } in
    adds_four four (four / 16777216 % 256 ∷ four / 65536 % 256 ∷ four / 256 % 256 ∷ four % 256 ∷ []) old new
    (is.first, (is.second, (is.third, (is.fourth, tt)))) is
    (appended ∙ ap (λ (l : List ℕ). old ++ l) are)

-- two halves of a number
pub added_halves : (eight : ℕ) (old mid new : List ℕ) → AddsBits 32 (eight / 4294967296) old mid
    → AddsBits 32 (eight % 4294967296) mid new → AddsBits 64 eight old new
added_halves eight old mid new a b = record {
  bytes = a.bytes ++ b.bytes;
  are = bytes_join a.bytes b.bytes a.are b.are;
  items = b.items ∙ ap (λ (l : List ℕ). l ++ b.bytes) a.items ∙ append_assoc old a.bytes b.bytes;
  bits = flat_map-append (bits_of 8) a.bytes b.bytes
      ∙ ap (λ (l : List ℕ). l ++ bits_of_bytes b.bytes) a.bits
      ∙ ap (λ (l : List ℕ). bits_of 32 (eight / 4294967296) ++ l) (b.bits ∙ bits_cut 32 eight)
      ∙ sym (bits_append 32 32 64 eight refl);
}

-- the eight bytes of a number, appended
pub eight_added : (eight : ℕ) (bytes old new : List ℕ) → eight < 2 ^ 64
    → bytes ≡ eight / 72057594037927936 % 256 ∷ eight / 281474976710656 % 256 ∷ eight / 1099511627776 % 256 ∷ eight / 4294967296 % 256 ∷ eight / 16777216 % 256 ∷ eight / 65536 % 256 ∷ eight / 256 % 256 ∷ eight % 256 ∷ []
    → new ≡ old ++ bytes → AddsBits 64 eight old new
eight_added eight bytes old new fits are appended =
    let high : List ℕ = four_of (eight / 4294967296) in
    let low : List ℕ = four_of (eight % 4294967296) in
    added_halves eight old (old ++ high) new
    (four_added (eight / 4294967296) high old (old ++ high) (omega (arith, fits)) refl refl)
    (four_added (eight % 4294967296) low (old ++ high) new (omega arith) refl
    (appended ∙ ap (λ (l : List ℕ). old ++ l) (are ∙ in_halves) ∙ sym (append_assoc old high low)))
  where
    four_of : ℕ → List ℕ
    four_of n = n / 16777216 % 256 ∷ n / 65536 % 256 ∷ n / 256 % 256 ∷ n % 256 ∷ []

    byte_0 : eight / 72057594037927936 % 256 ≡ (eight / 4294967296) / 16777216 % 256
    byte_0 = omega arith

    byte_1 : eight / 281474976710656 % 256 ≡ (eight / 4294967296) / 65536 % 256
    byte_1 = omega arith

    byte_2 : eight / 1099511627776 % 256 ≡ (eight / 4294967296) / 256 % 256
    byte_2 = omega arith

    byte_4 : eight / 16777216 % 256 ≡ (eight % 4294967296) / 16777216 % 256
    byte_4 = omega arith

    byte_5 : eight / 65536 % 256 ≡ (eight % 4294967296) / 65536 % 256
    byte_5 = omega arith

    byte_6 : eight / 256 % 256 ≡ (eight % 4294967296) / 256 % 256
    byte_6 = omega arith

    byte_7 : eight % 256 ≡ (eight % 4294967296) % 256
    byte_7 = omega arith

    in_halves : eight / 72057594037927936 % 256 ∷ eight / 281474976710656 % 256 ∷ eight / 1099511627776 % 256 ∷ eight / 4294967296 % 256 ∷ eight / 16777216 % 256 ∷ eight / 65536 % 256 ∷ eight / 256 % 256 ∷ eight % 256 ∷ []
        ≡ four_of (eight / 4294967296) ++ four_of (eight % 4294967296)
    in_halves = rw (byte_0, byte_1, byte_2, byte_4, byte_5, byte_6, byte_7) refl

-- ---- the end

pub adds_last : (count loaded k filled : ℕ) (old new : List ℕ) → k < 8 → filled ≡ loaded * 2 ^ k + (2 ^ k - 1)
    → HasAdded (bits_of (count + k) filled) 0 filled old new → AddsLast (bits_of count loaded) old new
adds_last count loaded k filled old new few e a =
    let pos = pow_pos k in
    let top : 2 ^ k - 1 < 2 ^ k = omega arith in
    record {
      bytes = a.bytes;
      padding = k;
      are = a.are;
      items = a.items;
      few = few;
      bits = sym (append-nil (bits_of_bytes a.bytes))
          ∙ ap (λ (l : List ℕ). bits_of_bytes a.bytes ++ l) (sym (no_bits filled)) ∙ a.bits
          ∙ ap (bits_of (count + k)) e ∙ bits_push count k loaded (2 ^ k - 1) top
          ∙ ap (λ (l : List ℕ). bits_of count loaded ++ l) (ones_number k (2 ^ k - 1) (omega arith));
    }

-- the last bits behind those that were appended
pub last_behind : (whole : List ℕ) (count loaded : ℕ) (old now new : List ℕ) → HasAdded whole count loaded old now
    → AddsLast (bits_of count loaded) now new → AddsLast whole old new
last_behind whole count loaded old now new a b = record {
  bytes = a.bytes ++ b.bytes;
  padding = b.padding;
  are = bytes_join a.bytes b.bytes a.are b.are;
  items = b.items ∙ ap (λ (l : List ℕ). l ++ b.bytes) a.items ∙ append_assoc old a.bytes b.bytes;
  few = b.few;
  bits = flat_map-append (bits_of 8) a.bytes b.bytes ∙ ap (λ (l : List ℕ). bits_of_bytes a.bytes ++ l) b.bits
      ∙ sym (append_assoc (bits_of_bytes a.bytes) (bits_of count loaded) (ones b.padding))
      ∙ ap (λ (l : List ℕ). l ++ ones b.padding) a.bits;
}
