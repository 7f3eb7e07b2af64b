-- What looking into the static table relies on, as statements; the crate's law functions promise them.
use Rattle.std.specs.Prelude.{◌≡◌, ℕ, List, length, MatchOption}
use Rattle.qpack_spec.specs.Field.{Field}
use Rattle.qpack_spec.specs.StaticTable.{static_table, IsStaticAt, IsLeastStatic, NoStatic, static_index}
use Rattle.qpack_spec.specs.StaticTable.{static_name_index}

-- the table has 99 fields
abbrev pub StaticTableHas99 : Type 0
StaticTableHas99 = length static_table ≡ 99

-- no field is in the static table twice
abbrev pub StaticFieldsDiffer : Type 0
StaticFieldsDiffer = (i j : ℕ) (f : Field) → IsStaticAt i f → IsStaticAt j f → i ≡ j

-- looking up a field finds its index, or there is none
abbrev pub StaticIndexIsLeast : Type 0
StaticIndexIsLeast = (f : Field) → MatchOption (static_index f) (NoStatic (λ g. g ≡ f)) (IsLeastStatic (λ g. g ≡ f))

-- looking up a name finds the least index of a field with it, or there is none
abbrev pub StaticNameIndexIsLeast : Type 0
StaticNameIndexIsLeast =
    (name : List ℕ) → MatchOption (static_name_index name) (NoStatic (λ g. g.name ≡ name))
    (IsLeastStatic (λ g. g.name ≡ name))
