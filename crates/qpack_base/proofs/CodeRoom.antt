-- No code has fewer than five bits, so that the room for a payload's text is known before it is read; none has more
-- than 31, so that room for a text's payload is known before it is written.
use Rattle.std.proofs.Common.{◌≡◌, ℕ, zero, suc, ◌+◌, ◌*◌, ◌-◌, ◌/◌, ◌^◌, ◌<◌, ◌≤◌, Bool, true}
use Rattle.std.proofs.Common.{List, [], ◌∷◌, ◌++◌, length, refl, ap, subst, arith}
use Rattle.std.proofs.Common.{inl, inr, Ok}
use Rattle.std.proofs.lemmas.List.{length-append}
use Rattle.std.proofs.lemmas.List.Concat.{flat_map-cons}
use Rattle.std.proofs.lemmas.Bool.{cases_eq, cond_both, leb-true, and_parts}
use Rattle.std.specs.Prelude.{◌&&◌, ◌==◌, nat_le, nat_lt, not}
use Rattle.std.specs.List.{position_or_len, list_any, count_by}
use Rattle.qpack_spec.specs.Huffman.{bits_of, bytes_by_length, bytes_of_length, first_code, code_length, code_of}
use Rattle.qpack_spec.specs.Huffman.{bits_of_text, payload_of, bits_of_bytes, text_of_bits, ones, AreBytes}
use Rattle.qpack_spec.proofs.Bits.{bits_length, bytes_bits, bytes_length}
use Rattle.qpack_spec.proofs.CodeTable.{thirty_rows}
use Rattle.qpack_spec.proofs.Payloads.{text_means}
use Rattle.qpack_spec.proofs.WrittenPayloads.{payload_length}
use Rattle.qpack_base.specs.Payloads.{BeginsCodes}

-- whether the codes of k bytes from b on have at least five bits
abbrev all_long : ℕ → ℕ → Bool
all_long zero b = true
all_long (suc k) b = nat_le 5 (length (code_of b)) && all_long k (suc b)

all_codes_long : all_long 256 0 ≡ true
unfolding bytes_by_length bytes_of_length first_code code_length code_of bits_of
all_codes_long = refl

long_each : (k b c : ℕ) → all_long k b ≡ true → b ≤ c → c < b + k → 5 ≤ length (code_of c)
long_each zero b c e l u = absurd (omega arith)
long_each (suc k) b c e l u =
    let h = and_parts (nat_le 5 (length (code_of b))) (all_long k (suc b)) e in
    elim (cases_eq b c) [
      | inl q ↦ subst (λ (d : ℕ). 5 ≤ length (code_of d)) q (leb-true _ _ h.0)
      | inr n ↦ long_each k (suc b) c h.1 (omega arith) (omega arith)
    ]

bits_least : (text : List ℕ) → AreBytes text → 5 * length text ≤ length (bits_of_text text)
bits_least [] h = omega arith
bits_least (b ∷ text) h =
    omega (
      arith,
      ap (λ (l : List ℕ). length l) (flat_map-cons code_of b text),
      length-append (code_of b) (bits_of_text text),
      long_each 256 0 b all_codes_long (omega arith) (omega (arith, h.0)),
      bits_least text h.1,
    )

-- the length of what a payload means
pub text_most : (payload value : List ℕ) → text_of_bits (bits_of_bytes payload) ≡ Ok value
    → length value ≤ length payload / 5 * 8 + 6
text_most payload value e =
    let means = text_means (bits_of_bytes payload) value (bytes_bits payload) e in
    omega (
      arith,
      bits_least value means.bytes,
      ap (λ (l : List ℕ). length l) means.parts,
      length-append (bits_of_text value) (ones means.padding),
      bytes_length payload,
    )

-- where codes are loaded, there is room for their bytes
pub room_for_codes : (count loaded bits free : ℕ) (bytes more now : List ℕ) → BeginsCodes count loaded bits bytes
    → bits_of count loaded ++ more ≡ now → length now ≤ 5 * free + 4 → length bytes ≤ free
room_for_codes count loaded bits free bytes more now begins is fits =
    omega (
      arith,
      bits_least bytes begins.are,
      ap (λ (l : List ℕ). length l) begins.is,
      bits_length bits (loaded / 2 ^ (count - bits)),
      begins.there,
      ap (λ (l : List ℕ). length l) is,
      length-append (bits_of count loaded) more,
      bits_length count loaded,
      fits,
    )

-- where twelve bits are loaded, there is room for two bytes
pub room_for_two : (count loaded free : ℕ) (more now : List ℕ) → 12 ≤ count → bits_of count loaded ++ more ≡ now
    → length now ≤ 5 * free + 4 → 2 ≤ free
room_for_two count loaded free more now enough is fits =
    omega (
      arith,
      ap (λ (l : List ℕ). length l) is,
      length-append (bits_of count loaded) more,
      bits_length count loaded,
      fits,
    )

-- and after the bytes whose codes were passed there is room for what is left
pub room_after : (bytes left now : List ℕ) (free after : ℕ) → AreBytes bytes → now ≡ bits_of_text bytes ++ left
    → length now ≤ 5 * free + 4 → free ≡ after + length bytes → length left ≤ 5 * after + 4
room_after bytes left now free after are is fits more =
    omega (
      arith,
      bits_least bytes are,
      ap (λ (l : List ℕ). length l) is,
      length-append (bits_of_text bytes) left,
      fits,
      more,
    )

-- ---- the room for a text's payload

position_most : {X : Type 0} (p : X → Bool) (xs : List X) → position_or_len p xs ≤ length xs
position_most p [] = omega arith
position_most p (x ∷ xs) =
    cond_both (not (p x)) (1 + position_or_len p xs) 0 (λ n. n ≤ suc (length xs))
    (λ t. let i = position_most p xs in omega (arith, i)) (λ f. omega arith)

code_length_most : (b : ℕ) → code_length b ≤ 31
unfolding code_length
code_length_most b =
    let p = position_most (λ bytes. list_any (λ c. c == b) bytes) bytes_by_length in omega (arith, p, thirty_rows)

-- a code has 31 bits at most, one that stands for no byte too
code_most : (b : ℕ) → length (code_of b) ≤ 31
unfolding code_of
code_most b =
    let many = bits_length (code_length b)
    (first_code (code_length b) + count_by (λ c. nat_lt c b) (bytes_of_length (code_length b))) in
    let most = code_length_most b in
    omega (arith, many, most)

bits_most : (text : List ℕ) → length (bits_of_text text) ≤ 31 * length text
bits_most [] = omega arith
bits_most (b ∷ text) =
    omega (
      arith,
      ap (λ (l : List ℕ). length l) (flat_map-cons code_of b text),
      length-append (code_of b) (bits_of_text text),
      code_most b,
      bits_most text,
    )

eighths : (bits n : ℕ) → bits ≤ 31 * n → (bits + 7) / 8 ≤ 4 * n
eighths bits zero h = let none : bits ≡ 0 = omega (arith, h) in rw none (omega arith)
eighths bits (suc n) h = omega (arith, h)

-- no payload has more than four bytes for each of its text
pub payload_most : (text : List ℕ) → length (payload_of text) ≤ 4 * length text
payload_most text =
    omega (arith, payload_length text, eighths (length (bits_of_text text)) (length text) (bits_most text))
