-- What the first index of a field or a name in the static table says.
use Rattle.std.proofs.Common.{◌≡◌, ℕ, List, Option, Some, None}
use Rattle.std.specs.Prelude.{IfSome, IfNone, MatchOption}
use Rattle.qpack_spec.specs.Field.{Field}
use Rattle.qpack_spec.specs.StaticTable.{static_index, static_name_index, IsLeastStatic, NoStatic}
use Rattle.qpack_spec.proofs.StaticIndexes.{index_is_least, name_index_is_least}

some_part : (r : Option ℕ) (No : Type 0) (Yes : ℕ → Type 0) → MatchOption r No Yes → IfSome r Yes
some_part None No Yes h = tt
some_part (Some i) No Yes h = h

none_part : (r : Option ℕ) (No : Type 0) (Yes : ℕ → Type 0) → MatchOption r No Yes → IfNone r No
none_part None No Yes h = h
none_part (Some i) No Yes h = tt

pub field_found : (f : Field) (r : Option ℕ) → r ≡ static_index f → IfSome r (IsLeastStatic (λ g. g ≡ f))
field_found f r e =
    rw e (some_part (static_index f) (NoStatic (λ g. g ≡ f)) (IsLeastStatic (λ g. g ≡ f)) (index_is_least f))

pub field_missing : (f : Field) (r : Option ℕ) → r ≡ static_index f → IfNone r (NoStatic (λ g. g ≡ f))
field_missing f r e =
    rw e (none_part (static_index f) (NoStatic (λ g. g ≡ f)) (IsLeastStatic (λ g. g ≡ f)) (index_is_least f))

pub name_found : (name : List ℕ) (r : Option ℕ) → r ≡ static_name_index name
    → IfSome r (IsLeastStatic (λ g. g.name ≡ name))
name_found name r e =
    rw e (some_part (static_name_index name) (NoStatic (λ g. g.name ≡ name)) (IsLeastStatic (λ g. g.name ≡ name))
    (name_index_is_least name))

pub name_missing : (name : List ℕ) (r : Option ℕ) → r ≡ static_name_index name
    → IfNone r (NoStatic (λ g. g.name ≡ name))
name_missing name r e =
    rw e (none_part (static_name_index name) (NoStatic (λ g. g.name ≡ name)) (IsLeastStatic (λ g. g.name ≡ name))
    (name_index_is_least name))
