-- The last bits of a payload, written as eight bytes that are filled up with ones, and cut to those that count.
use Rattle.std.proofs.Common.{◌≡◌, ℕ, zero, suc, ◌+◌, ◌-◌, ◌*◌, ◌/◌, ◌%◌, ◌^◌, ◌<◌, List, ◌++◌, length}
use Rattle.std.proofs.Common.{take, drop, refl, sym, ap, ◌∙◌, arith, append_assoc, take-append-drop}
use Rattle.std.proofs.lemmas.List.{length-append, length-take-le}
use Rattle.std.proofs.lemmas.Nat.{pow_pos}
use Rattle.std.proofs.lemmas.Grind.{flat_map-append}
use Rattle.std.proofs.Math.Seq.{take-append-add, take-append_seam}
use Rattle.qpack_spec.specs.Huffman.{bits_of, bits_of_bytes, ones}
use Rattle.qpack_spec.proofs.Bits.{bits_length, bytes_length, ones_length, ones_number}
use Rattle.qpack_base.specs.WrittenPayloads.{AddsBits, AddsLast}
use Rattle.qpack_base.proofs.PutCodes.{code_behind}
use Rattle.qpack_base.proofs.SameBytes.{are_taken}

ones_join : (j k : ℕ) → ones (j + k) ≡ ones j ++ ones k
unfolding ones
ones_join zero k = ap ones (let e : 0 + k ≡ k = omega arith in e)
ones_join (suc j) k = let e : suc j + k ≡ suc (j + k) = omega arith in rw (e, ones_join j k) refl

one_more : (n : ℕ) → bits_of 1 1 ++ ones n ≡ ones (suc n)
unfolding bits_of ones
one_more n = refl

-- the bits, a one, and further ones
pub word_filled : (count number n : ℕ) → count + n ≡ 63
    → bits_of 64 ((number * 2 ^ 1 % 2 ^ 64 + 1) * 2 ^ n % 2 ^ 64 + (2 ^ n - 1))
    ≡ bits_of count number ++ ones (64 - count)
word_filled count number n e =
    let pos = pow_pos n in
    let marked = number * 2 ^ 1 % 2 ^ 64 + 1 in
    let top : 2 ^ n - 1 < 2 ^ n = omega arith in
    let all : count + 1 + n ≡ 64 = omega (arith, e) in
    let left : suc n ≡ 64 - count = omega (arith, e) in
    ap (λ (k : ℕ). bits_of k (marked * 2 ^ n % 2 ^ 64 + (2 ^ n - 1))) (sym all)
    ∙ code_behind (count + 1) marked n (2 ^ n - 1) (omega (arith, e)) top
    ∙ ap (λ (l : List ℕ). l ++ bits_of n (2 ^ n - 1)) (code_behind count number 1 1 (omega (arith, e)) (omega arith))
    ∙ append_assoc (bits_of count number) (bits_of 1 1) (bits_of n (2 ^ n - 1))
    ∙ ap (λ (l : List ℕ). bits_of count number ++ (bits_of 1 1 ++ l)) (ones_number n (2 ^ n - 1) (omega arith))
    ∙ ap (λ (l : List ℕ). bits_of count number ++ l) (one_more n ∙ ap ones left)

-- the first bytes of such a number
pub filled_front : (count number word k : ℕ) (old mid new : List ℕ) → AddsBits 64 word old mid
    → bits_of 64 word ≡ bits_of count number ++ ones (64 - count) → count < 64 → k ≡ (count + 7) / 8
    → new ≡ take (length old + k) mid → AddsLast (bits_of count number) old new
filled_front count number word k old mid new a is few e cut =
    let len : length a.bytes ≡ 8 = omega (
      arith,
      bytes_length a.bytes,
      ap (λ (l : List ℕ). length l) a.bits,
      bits_length 64 word,
    ) in
    let front = take k a.bytes in
    let front_len : length front ≡ k = length-take-le k a.bytes (omega (arith, len, e, few)) in
    let front_bits : length (bits_of_bytes front) ≡ 8 * k = omega (arith, bytes_length front, front_len) in
    let padding = 8 * k - count in
    let filled = bits_of count number ++ ones padding in
    let filled_len : length filled ≡ 8 * k = omega (
      arith,
      length-append (bits_of count number) (ones padding),
      bits_length count number,
      ones_length padding,
      e,
    ) in
    let split : 64 - count ≡ padding + (64 - 8 * k) = omega (arith, e, few) in
    let bits : bits_of_bytes front ++ bits_of_bytes (drop k a.bytes) ≡ filled ++ ones (64 - 8 * k) =
    sym (flat_map-append (bits_of 8) front (drop k a.bytes))
    ∙ ap (λ (l : List ℕ). bits_of_bytes l) (take-append-drop k a.bytes) ∙ a.bits ∙ is
    ∙ ap (λ (l : List ℕ). bits_of count number ++ l) (ap ones split ∙ ones_join padding (64 - 8 * k))
    ∙ sym (append_assoc (bits_of count number) (ones padding) (ones (64 - 8 * k))) in
    record {
      bytes = front;
      padding = padding;
      are = are_taken k a.bytes a.are;
      items = cut ∙ ap (λ (l : List ℕ). take (length old + k) l) a.items ∙ take-append-add old a.bytes k;
      few = omega (arith, e);
      bits = sym (take-append_seam (bits_of_bytes front) (bits_of_bytes (drop k a.bytes)))
          ∙ ap (λ (n : ℕ). take n (bits_of_bytes front ++ bits_of_bytes (drop k a.bytes))) (front_bits ∙ sym filled_len)
          ∙ ap (λ (l : List ℕ). take (length filled) l) bits ∙ take-append_seam filled (ones (64 - 8 * k));
    }
