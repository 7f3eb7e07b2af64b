-- The greatest of some numbers, and of those that a block in progress references.
use Rattle.std.proofs.Common.{◌≡◌, ℕ, ◌+◌, ◌<◌, ◌≤◌, List, [], ◌∷◌, ◌++◌, length, take, get_or, max}
use Rattle.std.proofs.Common.{arith, inl, inr, add-one}
use Rattle.std.proofs.Math.Seq.{take-suc}
use Rattle.std.proofs.lemmas.Bool.{cases_lt}
use Rattle.qpack_spec.specs.Reading.{greatest_of}
use Rattle.qpack_spec.proofs.References.{greatest_append}
use Rattle.qpack_table.specs.Tables.{times}
use Rattle.qpack_table.proofs.Marks.{once_more}

pub greatest_none : greatest_of [] ≡ 0
unfolding greatest_of
greatest_none = omega arith

pub greatest_more : (greatest new i : ℕ) (xs : List ℕ) → greatest ≡ greatest_of (take i xs) → i < length xs
    → new ≡ max greatest (get_or xs i 0) → new ≡ greatest_of (take (i + 1) xs)
greatest_more greatest new i xs h within is =
    rw (add-one, take-suc xs i 0 within) (omega (arith, is, h, greatest_append (take i xs) (get_or xs i 0)))

-- none of the numbers is above another one, if none of those above it is among them
pub greatest_within : (n : ℕ) (xs ys : List ℕ) → ((a : ℕ) → n < a → times a (xs ++ ys) ≡ 0) → greatest_of xs ≤ n
unfolding greatest_of
greatest_within n [] ys h = omega arith
greatest_within n (x ∷ xs) ys h =
    let rest = greatest_within n xs ys (λ a above. omega (arith, h a above)) in
    elim (cases_lt n x) [
      | inl above ↦ absurd (omega (arith, h x above, once_more x (xs ++ ys)))
      | inr within ↦ omega (arith, rest, within)
    ]
