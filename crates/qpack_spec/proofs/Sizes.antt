-- Sizes of lists of fields, field by field.
use Rattle.std.proofs.Common.{◌≡◌, ℕ, zero, suc, ◌+◌, ◌≤◌, zero-add, List, [], ◌∷◌, ◌++◌, drop, ap, ◌∙◌, arith}
use Rattle.std.proofs.lemmas.List.Sums.{sum_by-append}
use Rattle.qpack_spec.specs.Field.{Field, field_size, total_size}

-- one field
pub total_one : (f : Field) → total_size (f ∷ []) ≡ field_size f
total_one f = zero-add (field_size f)

-- a field more at the front
pub total_first : (f : Field) (fs : List Field) → total_size (f ∷ fs) ≡ field_size f + total_size fs
total_first f fs = sum_by-append field_size (f ∷ []) fs ∙ ap (λ n. n + total_size fs) (total_one f)

-- a field more at the end
pub total_last : (fs : List Field) (f : Field) → total_size (fs ++ f ∷ []) ≡ total_size fs + field_size f
total_last fs f = sum_by-append field_size fs (f ∷ []) ∙ ap (λ n. total_size fs + n) (total_one f)

-- a tail is no larger
pub drop_smaller : (n : ℕ) (fs : List Field) → total_size (drop n fs) ≤ total_size fs
drop_smaller zero fs = omega arith
drop_smaller (suc n) [] = omega arith
drop_smaller (suc n) (f ∷ fs) = omega (arith, drop_smaller n fs, total_first f fs)
