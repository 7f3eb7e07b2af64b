-- Reading a code bit by bit finds the byte whose code stands in front, and no other.
use Rattle.std.proofs.Common.{◌≡◌, ℕ, zero, suc, ◌+◌, ◌-◌, ◌*◌, ◌<◌, ◌≤◌, true, List, [], ◌∷◌, ◌++◌}
use Rattle.std.proofs.Common.{length, Result, Ok, Err, refl, sym, ap, subst, ◌∙◌, arith, append_assoc, inl, inr}
use Rattle.std.specs.Prelude.{nat_lt, slice_index, ◌==◌, ◌&&◌}
use Rattle.std.proofs.lemmas.Bool.{ltb-true, ltb-false, eqb-true, cases_eq, and_parts}
use Rattle.std.proofs.lemmas.Slice.Eq.{bytes_eq-Decides}
use Rattle.std.specs.Str.{bytes_eq}
use Rattle.qpack_spec.specs.Huffman.{HuffmanFault, bytes_by_length, code_of, code_at, bits_of}
use Rattle.qpack_spec.proofs.Results.{chosen, ok_pair}
use Rattle.qpack_spec.proofs.Bits.{AreBits, bits_next}
use Rattle.qpack_spec.proofs.CodeTable.{gives, all_give, row_good, rows_good, all_codes, all_rows}

-- ---- the codes that are computed

no_bits : (bits : List ℕ) → (length bits == 0) ≡ true → bits ≡ []
no_bits [] e = refl
no_bits (b ∷ bits) e = absurd (let h = eqb-true _ _ e in omega arith)

given : (b : ℕ) (r : Result (ℕ × List ℕ) HuffmanFault) → gives b r ≡ true → r ≡ Ok (b, [])
given b (Ok x) e =
    let h = and_parts (x.0 == b) (length x.1 == 0) e in
    let p = eqb-true _ _ h.0 in
    let q = no_bits x.1 h.1 in
    ap (λ (c : ℕ). Ok (c, x.1)) p ∙ ap (λ (l : List ℕ). Ok (b, l)) q
given b (Err fault) e = absurd cc

each : (k b c : ℕ) → all_give k b ≡ true → b ≤ c → c < b + k → gives c (code_at bytes_by_length 0 0 (code_of c)) ≡ true
each zero b c e l u = absurd (omega arith)
each (suc k) b c e l u =
    let h = and_parts (gives b (code_at bytes_by_length 0 0 (code_of b))) (all_give k (suc b)) e in
    elim (cases_eq b c) [
      | inl q ↦ subst (λ (d : ℕ). gives d (code_at bytes_by_length 0 0 (code_of d)) ≡ true) q h.0
      | inr n ↦ each k (suc b) c h.1 (omega arith) (omega arith)
    ]

-- a code alone is read
pub code_read : (b : ℕ) → b < 256 → code_at bytes_by_length 0 0 (code_of b) ≡ Ok (b, [])
code_read b h = given b (code_at bytes_by_length 0 0 (code_of b)) (each 256 0 b all_codes (omega arith) (omega arith))

-- ---- what stands behind a code does not matter

code_extends : (rs : List (List ℕ)) (n x : ℕ) (bits rest more : List ℕ) (b : ℕ) → code_at rs n x bits ≡ Ok (b, rest)
    → code_at rs n x (bits ++ more) ≡ Ok (b, rest ++ more)
unfolding code_at
code_extends [] n x bits rest more b e = absurd cc
code_extends (r ∷ rs) n x [] rest more b e = absurd cc
code_extends (r ∷ rs) n x (bit ∷ bits) rest more b e =
    elim (chosen (nat_lt (2 * n + bit) (2 * x + length r)) (Ok (slice_index r (2 * n + bit - 2 * x), bits))
    (code_at rs (2 * n + bit) (2 * x + length r) bits) (Ok (b, rest)) e) [
      | inl h ↦
          let p = ok_pair (slice_index r (2 * n + bit - 2 * x)) b bits rest h.1 in
          let t = p.0 in
          let u = p.1 in
          rw (h.0, t, u) refl
      | inr h ↦ rw h.0 (code_extends rs (2 * n + bit) (2 * x + length r) bits rest more b h.1)
    ]

-- the code in front is read, whatever follows
pub code_again : (b : ℕ) (rest : List ℕ) → b < 256 → code_at bytes_by_length 0 0 (code_of b ++ rest) ≡ Ok (b, rest)
code_again b rest h = code_extends bytes_by_length 0 0 (code_of b) [] rest b (code_read b h)

-- ---- what is read is a code

record TakesCode (n number : ℕ) (bits : List ℕ) (b : ℕ) (rest : List ℕ) : Type 0 where
  pub code : List ℕ
  pub parts : bits ≡ code ++ rest
  pub byte : b < 256
  pub is : code_of b ≡ bits_of n number ++ code

row_at : (n first : ℕ) (row : List ℕ) (k : ℕ) → row_good n first row ≡ true → k < length row
    → (slice_index row k < 256) × (code_of (slice_index row k) ≡ bits_of n (first + k))
row_at n first [] k e h = absurd (omega arith)
row_at n first (b ∷ row) zero e h =
    let g = and_parts (nat_lt b 256) (bytes_eq (code_of b) (bits_of n first) && row_good n (suc first) row) e in
    let w = and_parts (bytes_eq (code_of b) (bits_of n first)) (row_good n (suc first) row) g.1 in
    let f : first ≡ first + 0 = omega arith in
    (ltb-true _ _ g.0, (bytes_eq-Decides (code_of b) (bits_of n first)).0 w.0 ∙ ap (bits_of n) f)
row_at n first (b ∷ row) (suc k) e h =
    let g = and_parts (nat_lt b 256) (bytes_eq (code_of b) (bits_of n first) && row_good n (suc first) row) e in
    let w = and_parts (bytes_eq (code_of b) (bits_of n first)) (row_good n (suc first) row) g.1 in
    let r = row_at n (suc first) row k w.1 (omega arith) in
    let f : suc first + k ≡ first + suc k = omega arith in
    (r.0, r.1 ∙ ap (bits_of n) f)

code_takes : (rs : List (List ℕ)) (n number next : ℕ) (bits : List ℕ) (b : ℕ) (rest : List ℕ)
    → rows_good n next rs ≡ true → AreBits bits → next ≤ number → code_at rs number next bits ≡ Ok (b, rest)
    → TakesCode n number bits b rest
unfolding code_at
code_takes [] n number next bits b rest good ok le e = absurd cc
code_takes (r ∷ rs) n number next [] b rest good ok le e = absurd cc
code_takes (r ∷ rs) n number next (bit ∷ bits) b rest good ok le e =
    let g = and_parts (row_good (suc n) (2 * next) r) (rows_good (suc n) (2 * next + length r) rs) good in
    let one = bits_next n number bit ok.0 in
    elim (chosen (nat_lt (2 * number + bit) (2 * next + length r))
    (Ok (slice_index r (2 * number + bit - 2 * next), bits))
    (code_at rs (2 * number + bit) (2 * next + length r) bits) (Ok (b, rest)) e) [
      | inl h ↦
          let p = ok_pair (slice_index r (2 * number + bit - 2 * next)) b bits rest h.1 in
          let lt = ltb-true _ _ h.0 in
          let w = row_at (suc n) (2 * next) r (2 * number + bit - 2 * next) g.0 (omega arith) in
          let k : 2 * next + (2 * number + bit - 2 * next) ≡ 2 * number + bit = omega arith in
          record {
            code = bit ∷ [];
            parts = ap (λ (l : List ℕ). bit ∷ l) p.1;
            byte = subst (λ (c : ℕ). c < 256) p.0 w.0;
            is = ap code_of (sym p.0) ∙ w.1 ∙ ap (bits_of (suc n)) k ∙ one;
          }
      | inr h ↦
          let t = code_takes rs (suc n) (2 * number + bit) (2 * next + length r) bits b rest g.1 ok.1
          (ltb-false _ _ h.0) h.1 in
          record {
            code = bit ∷ t.code;
            parts = ap (λ (l : List ℕ). bit ∷ l) t.parts;
            byte = t.byte;
            is = t.is ∙ ap (λ (l : List ℕ). l ++ t.code) one ∙ append_assoc (bits_of n number) (bit ∷ []) t.code;
          }
    ]

pub record FindsCode (bits : List ℕ) (b : ℕ) (rest : List ℕ) : Type 0 where
  pub byte : b < 256
  pub parts : bits ≡ code_of b ++ rest

no_bits_before : (n : ℕ) → bits_of 0 n ≡ []
unfolding bits_of
no_bits_before n = refl

pub code_found : (bits : List ℕ) (b : ℕ) (rest : List ℕ) → AreBits bits
    → code_at bytes_by_length 0 0 bits ≡ Ok (b, rest) → FindsCode bits b rest
code_found bits b rest ok e =
    let t = code_takes bytes_by_length 0 0 0 bits b rest all_rows ok (omega arith) e in
    let w : code_of b ≡ t.code = t.is ∙ ap (λ (l : List ℕ). l ++ t.code) (no_bits_before 0) in
    record { byte = t.byte; parts = t.parts ∙ ap (λ (l : List ℕ). l ++ rest) (sym w) }

-- a code takes at least one bit
pub code_shorter : (rs : List (List ℕ)) (n x : ℕ) (bits rest : List ℕ) (b : ℕ) → code_at rs n x bits ≡ Ok (b, rest)
    → length rest < length bits
unfolding code_at
code_shorter [] n x bits rest b e = absurd cc
code_shorter (r ∷ rs) n x [] rest b e = absurd cc
code_shorter (r ∷ rs) n x (bit ∷ bits) rest b e =
    elim (chosen (nat_lt (2 * n + bit) (2 * x + length r)) (Ok (slice_index r (2 * n + bit - 2 * x), bits))
    (code_at rs (2 * n + bit) (2 * x + length r) bits) (Ok (b, rest)) e) [
      | inl h ↦ let p = ok_pair (slice_index r (2 * n + bit - 2 * x)) b bits rest h.1 in let q =
          ap (λ (y : List ℕ). length y) p.1 in omega (arith, q)
      | inr h ↦ omega (arith, code_shorter rs (2 * n + bit) (2 * x + length r) bits rest b h.1)
    ]
