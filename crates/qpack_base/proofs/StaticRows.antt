-- A row of a part of the static table stands in the table, and what a look for a field finds.
use Rattle.std.proofs.Common.{◌≡◌, ℕ, zero, suc, ◌+◌, ◌<◌, ◌≤◌, List, [], ◌∷◌, length, take, drop, get_or}
use Rattle.std.proofs.Common.{Option, Some, None, refl, sym, ap, subst, ◌∙◌, arith, inl, inr}
use Rattle.std.proofs.lemmas.Bool.{cases_lt}
use Rattle.std.proofs.lemmas.List.{length-map, length-take-le, length-drop}
use Rattle.std.proofs.lemmas.Option.{slice_get-map, slice_get-get_or, slice_get_past}
use Rattle.std.specs.Prelude.{slice_get, IsSome}
use Rattle.std.specs.Option.{option_map}
use Rattle.std.specs.Borrow.{Bor}
use Rattle.qpack_spec.specs.Field.{Field}
use Rattle.qpack_spec.specs.StaticTable.{static_table, IsStaticAt, static_index, static_name_index}
use Rattle.qpack_spec.proofs.Lists.{get_drop}
use Rattle.qpack_spec.proofs.StaticIndexes.{has_99}
use Rattle.qpack_base.specs.StaticFields.{field_of_row, fields_at, match_of}
use Rattle.qpack_base.specs.declared.static_.StaticMatch.TheVariants as found

get_take : {X : Type 0} (n : ℕ) (xs : List X) (i : ℕ) → i < n → slice_get (take n xs) i ≡ slice_get xs i
get_take zero xs i h = absurd (omega arith)
get_take (suc n) [] i h = refl
get_take (suc n) (x ∷ xs) zero h = refl
get_take (suc n) (x ∷ xs) (suc i) h = get_take n xs i (omega arith)

-- a row of the part of so many rows from `first` on
pub row_there : (rows : List (Bor (List ℕ) × Bor (List ℕ))) (n first at index : ℕ) (d : Bor (List ℕ) × Bor (List ℕ))
    → fields_at rows ≡ take n (drop first static_table) → first + at ≡ index → at < n → first + n ≤ 99
    → IsStaticAt index (field_of_row (get_or rows at d))
row_there rows n first at index d are is within fits =
    let some : n ≤ length (drop first static_table) = omega (arith, has_99, length-drop first static_table) in
    let all : length rows ≡ n =
    sym (length-map rows field_of_row) ∙ ap (λ (l : List Field). length l) are
    ∙ length-take-le n (drop first static_table) some in
    let there : slice_get rows at ≡ Some (get_or rows at d) =
    slice_get-get_or rows at d (omega (arith, all)) in
    sym (get_take n (drop first static_table) at within
    ∙ get_drop first static_table at
    ∙ ap (slice_get static_table) is)
    ∙ ap (λ (l : List Field). slice_get l at) (sym are)
    ∙ slice_get-map field_of_row rows at
    ∙ ap (option_map field_of_row) there

-- the index of a row is below 99
pub row_below : (index : ℕ) → IsSome (slice_get static_table index) → index < 99
row_below index there =
    elim (cases_lt index 99) [
      | inl below ↦ below
      | inr past ↦
          let none = subst IsSome (slice_get_past static_table index (omega (arith, has_99))) there in absurd cc
    ]

-- ---- what a look for a field finds

pub match_field : (f : Field) (r : Option ℕ) (i : ℕ) → r ≡ static_index f → r ≡ Some i
    → Some (found.Field i) ≡ match_of (static_index f) (static_name_index f.name)
match_field f r i is some =
    ap (λ (o : Option ℕ). match_of o (static_name_index f.name)) (sym some ∙ is)

pub match_name : (f : Field) (r first : Option ℕ) → r ≡ static_index f → r ≡ None → first ≡ static_name_index f.name
    → option_map (λ i. found.Name i) first ≡ match_of (static_index f) (static_name_index f.name)
match_name f r first is none name =
    let at : static_index f ≡ None = sym is ∙ none in
    rw (at, sym name) (names first)
  where
    names : (o : Option ℕ) → option_map (λ i. found.Name i) o ≡ match_of None o
    names None = refl
    names (Some i) = refl
