-- What a look into the static table says of a name, and of a field.
use Rattle.std.proofs.Common.{◌≡◌, ◌<◌, ◌∙◌, ℕ, List, Option, Some, None, refl, sym, ap, subst, arith}
use Rattle.std.proofs.lemmas.Option.{slice_get_within}
use Rattle.std.specs.Prelude.{MatchOption, IfSome}
use Rattle.qpack_spec.specs.Field.{Field}
use Rattle.qpack_spec.specs.StaticTable.{static_table, static_index, static_name_index, IsLeastStatic, NoStatic}
use Rattle.qpack_spec.proofs.StaticIndexes.{has_99, index_is_least, name_index_is_least}
use Rattle.qpack_base.specs.StaticFields.{match_of}
use Rattle.qpack_base.specs.declared.static_.StaticMatch.{StaticMatch}
use Rattle.qpack_base.specs.declared.static_.StaticMatch.TheVariants as found

least_below : (P : Field → Type 0) (i : ℕ) → IsLeastStatic P i → i < 99
least_below P i least =
    let there = least.at in
    omega (arith, has_99, slice_get_within static_table i there.0 there.1)

field_below : (f : Field) (i : ℕ) → static_index f ≡ Some i → i < 99
field_below f i is =
    least_below (λ g. g ≡ f) i
    (subst (λ (o : Option ℕ). MatchOption o (NoStatic (λ g. g ≡ f)) (IsLeastStatic (λ g. g ≡ f))) is (index_is_least f))

name_below : (name : List ℕ) (i : ℕ) → static_name_index name ≡ Some i → i < 99
name_below name i is =
    least_below (λ g. g.name ≡ name) i
    (subst (λ (o : Option ℕ). MatchOption o (NoStatic (λ g. g.name ≡ name)) (IsLeastStatic (λ g. g.name ≡ name))) is
    (name_index_is_least name))

-- the index of a name is below 99
pub name_number : (name : List ℕ) (r : Option ℕ) → r ≡ static_name_index name → IfSome r (λ i. i < 99)
name_number name None is = tt
name_number name (Some i) is = name_below name i (sym is)

abbrev field_of_match : Option StaticMatch → Option ℕ
field_of_match None = None
field_of_match (Some (found.Field i)) = Some i
field_of_match (Some (found.Name i)) = None

field_of_both : (field name : Option ℕ) → field_of_match (match_of field name) ≡ field
field_of_both None None = refl
field_of_both None (Some i) = refl
field_of_both (Some i) name = refl

-- a match with a field has its index
field_is : (field name : Option ℕ) (i : ℕ) → Some (found.Field i) ≡ match_of field name → field ≡ Some i
field_is field name i is = sym (field_of_both field name) ∙ ap field_of_match (sym is)

-- a match with a name has no field
no_field : (field name : Option ℕ) (i : ℕ) → Some (found.Name i) ≡ match_of field name → field ≡ None
no_field field name i is = sym (field_of_both field name) ∙ ap field_of_match (sym is)

abbrev name_of_match : Option StaticMatch → Option ℕ
name_of_match None = None
name_of_match (Some (found.Field i)) = None
name_of_match (Some (found.Name i)) = Some i

name_of_none : (name : Option ℕ) → name_of_match (match_of None name) ≡ name
name_of_none None = refl
name_of_none (Some i) = refl

-- and has the index of the name
name_is : (field name : Option ℕ) (i : ℕ) → Some (found.Name i) ≡ match_of field name → name ≡ Some i
name_is field name i is =
    sym (name_of_none name)
    ∙ ap name_of_match (ap (λ (o : Option ℕ). match_of o name) (sym (no_field field name i is)) ∙ sym is)

-- the index of a match is below 99
pub field_number : (f : Field) (i : ℕ) → Some (found.Field i) ≡ match_of (static_index f) (static_name_index f.name)
    → i < 99
field_number f i is = field_below f i (field_is (static_index f) (static_name_index f.name) i is)

pub first_number : (f : Field) (i : ℕ) → Some (found.Name i) ≡ match_of (static_index f) (static_name_index f.name)
    → i < 99
first_number f i is = name_below f.name i (name_is (static_index f) (static_name_index f.name) i is)
