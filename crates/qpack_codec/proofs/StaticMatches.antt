-- What one look into the static table tells.
use Rattle.std.proofs.Common.{◌≡◌, ℕ, Option, None, Some, refl, ap}
use Rattle.qpack_base.specs.StaticFields.{match_of}
use Rattle.qpack_base.specs.declared.static_.StaticMatch.TheVariants as found

pub field_is : (equal first : Option ℕ) (index : ℕ) → match_of equal first ≡ Some (found.Field index)
    → equal ≡ Some index
field_is None None index e = absurd cc
field_is None (Some k) index e = absurd cc
field_is (Some k) first index e = let same : k ≡ index = cc in ap (λ (i : ℕ). Some i) same

pub name_alone : (equal first : Option ℕ) (index : ℕ) → match_of equal first ≡ Some (found.Name index) → equal ≡ None
name_alone None first index e = refl
name_alone (Some k) first index e = absurd cc

pub no_match : (equal first : Option ℕ) → match_of equal first ≡ None → equal ≡ None
no_match None first e = refl
no_match (Some k) first e = absurd cc
