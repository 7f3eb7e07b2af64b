-- The tables of the Huffman code, tested entry by entry against the code.
use Rattle.std.proofs.Common.{◌≡◌, ℕ, zero, suc, ◌+◌, ◌-◌, ◌/◌, ◌^◌, ◌<◌, ◌≤◌, Bool, true, false, ◌&&◌, List, [], ◌∷◌}
use Rattle.std.proofs.Common.{refl, subst, arith, inl, inr}
use Rattle.std.specs.Prelude.{nat_lt, nat_le, slice_index_or}
use Rattle.std.specs.Str.{bytes_eq}
use Rattle.std.proofs.lemmas.Bool.{ltb-true, leb-true, cases_eq, and_parts}
use Rattle.std.proofs.lemmas.Slice.Eq.{bytes_eq-Decides}
use Rattle.qpack_spec.specs.Huffman.{bits_of, bytes_by_length, bytes_of_length, first_code, code_length, code_of}
use Rattle.qpack_base.specs.declared.prefix_string.encoding.TheConstants.{CODES}
use Rattle.qpack_base.specs.HuffmanTables.{BeginsWithCode, IsCodeOf, AreShortCodes, AreCodes}

-- whether each of the k entries from place i on passes the test of its place
abbrev pub passes_from : {X : Type 0} → (ℕ → X → Bool) → ℕ → ℕ → List X → Bool
passes_from test zero i es = true
passes_from test (suc k) i [] = false
passes_from test (suc k) i (e ∷ es) = test i e && passes_from test k (suc i) es

pub passes_at : {X : Type 0} (test : ℕ → X → Bool) (d : X) (k i j : ℕ) (es : List X) → passes_from test k i es ≡ true
    → j < k → test (i + j) (slice_index_or es j d) ≡ true
passes_at test d zero i j es p h = absurd (omega arith)
passes_at test d (suc k) i j [] p h = absurd cc
passes_at test d (suc k) i zero (e ∷ es) p h = let z : i ≡ i + 0 = omega arith in
    subst (λ (n : ℕ). test n e ≡ true) z (and_parts (test i e) (passes_from test k (suc i) es) p).0
passes_at test d (suc k) i (suc j) (e ∷ es) p h =
    let z : suc i + j ≡ i + suc j = omega arith in
    subst (λ (n : ℕ). test n (slice_index_or es j d) ≡ true) z
    (passes_at test d k (suc i) j es (and_parts (test i e) (passes_from test k (suc i) es) p).1 (omega arith))

abbrev short_test : ℕ → ℕ × ℕ → Bool
short_test window e =
    nat_lt e.0 256 && (nat_le 1 e.1 && (nat_le e.1 8 && bytes_eq (code_of e.0) (bits_of e.1 (window / 2 ^ (8 - e.1)))))

short_code : (es : List (ℕ × ℕ)) → passes_from short_test 254 0 es ≡ true → (window : ℕ) → window < 254
    → BeginsWithCode window (slice_index_or es window (0, 0))
short_code es p window h =
    let e : ℕ × ℕ = slice_index_or es window (0, 0) in
    let z : 0 + window ≡ window = omega arith in
    let code = bytes_eq (code_of e.0) (bits_of e.1 (window / 2 ^ (8 - e.1))) in
    let t = subst (λ (n : ℕ). short_test n e ≡ true) z (passes_at short_test (0, 0) 254 0 window es p h) in
    let a = and_parts (nat_lt e.0 256) (nat_le 1 e.1 && (nat_le e.1 8 && code)) t in
    let b = and_parts (nat_le 1 e.1) (nat_le e.1 8 && code) a.1 in
    let c = and_parts (nat_le e.1 8) code b.1 in
    record {
      byte = ltb-true _ _ a.0;
      least = leb-true _ _ b.0;
      most = leb-true _ _ c.0;
      is = (bytes_eq-Decides (code_of e.0) (bits_of e.1 (window / 2 ^ (8 - e.1)))).0 c.1;
    }

abbrev bits_at : List (ℕ × ℕ) → ℕ → ℕ
bits_at es window = (slice_index_or es window (0, 0)).1

last_two : (es : List (ℕ × ℕ)) → nat_le 64 (bits_at es 254) ≡ true → nat_le 64 (bits_at es 255) ≡ true
    → (window : ℕ) → 254 ≤ window → window < 256 → 64 ≤ bits_at es window
last_two es p q window least most =
    elim (cases_eq window 254) [
      | inl e ↦ rw e (leb-true _ _ p)
      | inr n ↦ let e : window ≡ 255 = omega arith in rw e (leb-true _ _ q)
    ]

pub short_codes_agree : (es : List (ℕ × ℕ)) → passes_from short_test 254 0 es ≡ true
    → nat_le 64 (bits_at es 254) ≡ true → nat_le 64 (bits_at es 255) ≡ true → AreShortCodes es
short_codes_agree es p q r = record { at = short_code es p; past = last_two es q r }

abbrev code_test : ℕ → ℕ × ℕ → Bool
code_test byte e =
    nat_le 1 e.0 && (nat_le e.0 30 && (nat_lt e.1 (2 ^ e.0) && bytes_eq (code_of byte) (bits_of e.0 e.1)))

code_at_position : (es : List (ℕ × ℕ)) → passes_from code_test 256 0 es ≡ true → (byte : ℕ) → byte < 256
    → IsCodeOf byte (slice_index_or es byte (0, 0))
code_at_position es p byte h =
    let e : ℕ × ℕ = slice_index_or es byte (0, 0) in
    let z : 0 + byte ≡ byte = omega arith in
    let code = bytes_eq (code_of byte) (bits_of e.0 e.1) in
    let t = subst (λ (n : ℕ). code_test n e ≡ true) z (passes_at code_test (0, 0) 256 0 byte es p h) in
    let a = and_parts (nat_le 1 e.0) (nat_le e.0 30 && (nat_lt e.1 (2 ^ e.0) && code)) t in
    let b = and_parts (nat_le e.0 30) (nat_lt e.1 (2 ^ e.0) && code) a.1 in
    let c = and_parts (nat_lt e.1 (2 ^ e.0)) code b.1 in
    record {
      least = leb-true _ _ a.0;
      most = leb-true _ _ b.0;
      fits = ltb-true _ _ c.0;
      is = (bytes_eq-Decides (code_of byte) (bits_of e.0 e.1)).0 c.1;
    }

codes_agree : (es : List (ℕ × ℕ)) → passes_from code_test 256 0 es ≡ true → AreCodes es
codes_agree es p = record { at = code_at_position es p }

pub codes_are : AreCodes CODES
unfolding bits_of bytes_by_length bytes_of_length first_code code_length code_of
codes_are = codes_agree CODES refl
