-- The table of the codes that twelve bits begin with, tested entry by entry against the table of codes.
use Rattle.std.proofs.Common.{◌≡◌, ℕ, zero, suc, ◌+◌, ◌*◌, ◌-◌, ◌/◌, ◌%◌, ◌^◌, ◌<◌, ◌≤◌, Bool, true, ◌&&◌, List, [], ◌∷◌}
use Rattle.std.proofs.Common.{◌++◌, refl, sym, ap, subst, ◌∙◌, arith, pow-add, eqb-true, get_or-drop}
use Rattle.std.specs.Prelude.{nat_le, ◌==◌, slice_index_or, take, drop, length}
use Rattle.std.proofs.lemmas.Bool.{leb-true, and_parts}
use Rattle.std.proofs.lemmas.Nat.{mod_below, mul-add-lt}
use Rattle.std.proofs.lemmas.List.Concat.{flat_map-cons}
use Rattle.qpack_spec.specs.Huffman.{AreBytes, bits_of, bits_of_text, code_of}
use Rattle.qpack_spec.proofs.Bits.{bits_push}
use Rattle.qpack_base.specs.HuffmanTables.{AreCodes, ArePairs, BeginsWithCodes, pair_bits, pair_bytes}
use Rattle.qpack_base.proofs.CodeTables.{passes_from, passes_at}

-- the codes of bytes, joined: how many bits they have, and which number these are
abbrev joined : List (ℕ × ℕ) → List ℕ → ℕ × ℕ
joined codes [] = (0, 0)
joined codes (b ∷ bytes) = (
  (slice_index_or codes b (0, 0)).0 + (joined codes bytes).0,
  (slice_index_or codes b (0, 0)).1 * 2 ^ (joined codes bytes).0 + (joined codes bytes).1,
)

joined_fits : (codes : List (ℕ × ℕ)) (bytes : List ℕ) → AreCodes codes → AreBytes bytes
    → (joined codes bytes).1 < 2 ^ (joined codes bytes).0
joined_fits codes [] are h = omega arith
joined_fits codes (b ∷ bytes) are h =
    let code : ℕ × ℕ = slice_index_or codes b (0, 0) in
    let more : ℕ × ℕ = joined codes bytes in
    let p = pow-add 2 code.0 more.0 in
    let fits = mul-add-lt code.1 (2 ^ more.0) more.1 (2 ^ code.0) (are.at b h.0).fits (joined_fits codes bytes are h.1) in
    rw p (omega (arith, fits))

joined_is : (codes : List (ℕ × ℕ)) (bytes : List ℕ) → AreCodes codes → AreBytes bytes
    → bits_of_text bytes ≡ bits_of (joined codes bytes).0 (joined codes bytes).1
unfolding bits_of
joined_is codes [] are h = refl
joined_is codes (b ∷ bytes) are h =
    let code : ℕ × ℕ = slice_index_or codes b (0, 0) in
    let more : ℕ × ℕ = joined codes bytes in
    flat_map-cons code_of b bytes
    ∙ ap (λ (l : List ℕ). l ++ bits_of_text bytes) (are.at b h.0).is
    ∙ ap (λ (l : List ℕ). bits_of code.0 code.1 ++ l) (joined_is codes bytes are h.1)
    ∙ sym (bits_push code.0 more.0 code.1 more.1 (joined_fits codes bytes are h.1))

-- whether the codes of the entry's bytes begin the twelve bits
abbrev pair_test : List (ℕ × ℕ) → ℕ → ℕ → Bool
pair_test codes window e =
    nat_le 1 (length (pair_bytes e)) && (nat_le (pair_bits e) 12 && ((joined codes (pair_bytes e)).0 == pair_bits e
    && (joined codes (pair_bytes e)).1 == window / 2 ^ (12 - pair_bits e)))

take_bytes : (n : ℕ) (bytes : List ℕ) → AreBytes bytes → AreBytes (take n bytes)
take_bytes zero bytes h = tt
take_bytes (suc n) [] h = tt
take_bytes (suc n) (b ∷ bytes) h = (h.0, take_bytes n bytes h.1)

pub pair_bytes_are : (e : ℕ) → AreBytes (pair_bytes e)
pair_bytes_are e = take_bytes (e / 256 % 256) (e / 65536 % 256 ∷ e / 16777216 % 256 ∷ [])
    (mod_below (e / 65536) 256 (omega arith), (mod_below (e / 16777216) 256 (omega arith), tt))

pair_at : (codes : List (ℕ × ℕ)) (es : List ℕ) → AreCodes codes → passes_from (pair_test codes) 4092 0 es ≡ true
    → (window : ℕ) → window < 4092
    → BeginsWithCodes window (pair_bits (slice_index_or es window 0)) (pair_bytes (slice_index_or es window 0))
pair_at codes es are p window h =
    let e : ℕ = slice_index_or es window 0 in
    let bytes : List ℕ = pair_bytes e in
    let bits : ℕ = pair_bits e in
    let code : ℕ × ℕ = joined codes bytes in
    let z : 0 + window ≡ window = omega arith in
    let t = subst (λ (n : ℕ). pair_test codes n e ≡ true) z (passes_at (pair_test codes) 0 4092 0 window es p h) in
    let number = code.1 == window / 2 ^ (12 - bits) in
    let a = and_parts (nat_le 1 (length bytes)) (nat_le bits 12 && (code.0 == bits && number)) t in
    let b = and_parts (nat_le bits 12) (code.0 == bits && number) a.1 in
    let c = and_parts (code.0 == bits) number b.1 in
    record {
      some = leb-true _ _ a.0;
      most = leb-true _ _ b.0;
      is = joined_is codes bytes are (pair_bytes_are e)
          ∙ ap (λ (n : ℕ). bits_of n code.1) (eqb-true _ _ c.0)
          ∙ ap (λ (n : ℕ). bits_of bits n) (eqb-true _ _ c.1);
    }

-- whether the entry has more bits than are ever loaded
abbrev past_test : ℕ → ℕ → Bool
past_test window e = nat_le 64 (pair_bits e)

last_four : (es : List ℕ) → passes_from past_test 4 0 (drop 4092 es) ≡ true → (window : ℕ) → 4092 ≤ window
    → window < 4096 → 64 ≤ pair_bits (slice_index_or es window 0)
last_four es p window least most =
    let e : 4092 + (window - 4092) ≡ window = omega arith in
    leb-true _ _ (subst (λ (n : ℕ). nat_le 64 (pair_bits n) ≡ true)
    (get_or-drop 4092 es (window - 4092) 0 ∙ ap (λ (n : ℕ). slice_index_or es n 0) e)
    (passes_at past_test 0 4 0 (window - 4092) (drop 4092 es) p (omega arith)))

pub pairs_agree : (codes : List (ℕ × ℕ)) (es : List ℕ) → AreCodes codes
    → passes_from (pair_test codes) 4092 0 es ≡ true → passes_from past_test 4 0 (drop 4092 es) ≡ true → ArePairs es
pairs_agree codes es are p q = record { at = pair_at codes es are p; past = last_four es q }
