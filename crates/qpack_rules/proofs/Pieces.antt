-- The pieces in which insertions are reported.
use Rattle.std.proofs.Common.{◌≡◌, ℕ, zero, suc, ◌+◌, ◌-◌, ◌*◌, ◌/◌, ◌%◌, ◌<◌, ◌≤◌, List, [], ◌∷◌, ◌++◌, cond}
use Rattle.std.proofs.Common.{refl, sym, ap, ◌∙◌, arith, lit≤, min, inl, inr}
use Rattle.std.specs.List.{AllByRecursion}
use Rattle.std.specs.Prelude.{nat_eq, replicate}
use Rattle.std.proofs.lemmas.Bool.{cond_both, eqb-true, eqb-false, cases_lt}
use Rattle.std.proofs.Math.Nat.{div-add-mod, mod-lt, mod-eq_of_lt, mod-eq-sub-mod, div-eq-sub-div, div-eq_of_lt}
use Rattle.qpack_rules.specs.Session.{sum_of, IsPiece, pieces_of}
use Rattle.qpack_rules.specs.SessionLaws.{PiecesAddUp, PiecesAreSmall}

-- the piece behind those of 64, if there is one
abbrev last_piece : ℕ → List ℕ
last_piece rest = cond (nat_eq rest 0) [] (rest ∷ [])

-- ---- the laws

sum_last : (rest : ℕ) → sum_of (last_piece rest) ≡ rest
sum_last rest =
    cond_both (nat_eq rest 0) [] (rest ∷ []) (λ (x : List ℕ). sum_of x ≡ rest) (λ b. sym (eqb-true rest 0 b))
    (λ b. omega arith)

sum_full : (k : ℕ) (behind : List ℕ) → sum_of (replicate k 64 ++ behind) ≡ 64 * k + sum_of behind
sum_full zero behind = omega arith
sum_full (suc k) behind = omega (arith, sum_full k behind)

pub pieces_add_up : PiecesAddUp
unfolding pieces_of
pieces_add_up many =
    omega (arith, sum_full (many / 64) (last_piece (many % 64)), sum_last (many % 64), div-add-mod many 64)

small_last : (rest : ℕ) → rest < 64 → AllByRecursion IsPiece (last_piece rest)
small_last rest lt =
    cond_both (nat_eq rest 0) [] (rest ∷ []) (λ (x : List ℕ). AllByRecursion IsPiece x) (λ b. tt)
    (λ b. let some = eqb-false rest 0 b in ((omega (arith, some), omega (arith, lt)), tt))

small_full : (k : ℕ) (behind : List ℕ) → AllByRecursion IsPiece behind
    → AllByRecursion IsPiece (replicate k 64 ++ behind)
small_full zero behind h = h
small_full (suc k) behind h = ((lit≤ tt, lit≤ tt), small_full k behind h)

pub pieces_small : PiecesAreSmall
unfolding pieces_of
pieces_small many =
    small_full (many / 64) (last_piece (many % 64)) (small_last (many % 64) (mod-lt many {m = 64} (omega arith)))

-- ---- the first piece

-- of 64 or more it is 64
pieces_full : (many : ℕ) → 64 ≤ many → pieces_of many ≡ 64 ∷ pieces_of (many - 64)
unfolding pieces_of
pieces_full many h =
    let full : many / 64 ≡ suc ((many - 64) / 64) = omega (arith, div-eq-sub-div {m = 64} {n = many} (omega arith) h) in
    ap (λ (k : ℕ). replicate k 64 ++ last_piece (many % 64)) full
    ∙ ap (λ (rest : ℕ). 64 ∷ (replicate ((many - 64) / 64) 64 ++ last_piece rest))
    (mod-eq-sub-mod {n = many} {m = 64} h)

-- fewer than 64 are one piece
pieces_few : (many : ℕ) → 0 < many → many < 64 → pieces_of many ≡ many ∷ pieces_of 0
unfolding pieces_of
pieces_few many some few =
    ap (λ (k : ℕ). replicate k 64 ++ last_piece (many % 64)) (div-eq_of_lt few)
    ∙ ap last_piece (mod-eq_of_lt few)
    ∙ cond_both (nat_eq many 0) [] (many ∷ []) (λ (x : List ℕ). x ≡ many ∷ [])
    (λ b. absurd (let none = eqb-true many 0 b in omega (arith, some, none))) (λ b. refl)

-- it is as many as there are, and 64 at most
pub pieces_next : (many left piece : ℕ) → 0 < many → piece ≡ min many 64 → left + piece ≡ many
    → pieces_of many ≡ piece ∷ pieces_of left
pieces_next many left piece some least parts =
    elim (cases_lt many 64) [
      | inl lt ↦ let all : piece ≡ many = omega (arith, least, lt) in
          let none : left ≡ 0 = omega (arith, all, parts) in rw all (rw none (pieces_few many some lt))
      | inr le ↦ let full : piece ≡ 64 = omega (arith, least, le) in
          let more : left ≡ many - 64 = omega (arith, full, parts) in rw full (rw more (pieces_full many le))
    ]

-- ---- a table of values

pieces_0 : pieces_of 0 ≡ []
unfolding pieces_of
pieces_0 = refl

pieces_1 : pieces_of 1 ≡ 1 ∷ []
unfolding pieces_of
pieces_1 = refl

pieces_64 : pieces_of 64 ≡ 64 ∷ []
unfolding pieces_of
pieces_64 = refl

pieces_65 : pieces_of 65 ≡ 64 ∷ 1 ∷ []
unfolding pieces_of
pieces_65 = refl

pieces_128 : pieces_of 128 ≡ 64 ∷ 64 ∷ []
unfolding pieces_of
pieces_128 = refl

pieces_130 : pieces_of 130 ≡ 64 ∷ 64 ∷ 2 ∷ []
unfolding pieces_of
pieces_130 = refl
