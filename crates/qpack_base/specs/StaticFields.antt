-- The static table as the crate keeps it, and the positions of its names.
use Rattle.std.specs.Prelude.{◌≡◌, ◌≤◌, ◌<◌, ◌-◌, ℕ, Bool, false, List, [], Option, Some, None, map, filter, All}
use Rattle.std.specs.Prelude.{Contains, length, slice_get, slice_index_or}
use Rattle.std.specs.Borrow.{Bor}
use Rattle.std.specs.List.{enumerate_from}
use Rattle.std.specs.Str.{bytes_eq}
use Rattle.qpack_spec.specs.Field.{Field, has_name}
use Rattle.qpack_base.specs.declared.static_.StaticMatch.{StaticMatch}
use Rattle.qpack_base.specs.declared.static_.StaticMatch.TheVariants as found
use Rattle.qpack_spec.specs.StaticTable.{static_table, IsStaticAt}

-- the field of a pair of byte slices (RFC 9204, Appendix A)
abbrev pub field_of_row : Bor (List ℕ) × Bor (List ℕ) → Field
field_of_row f = record { name = f.0.now; value = f.1.now }

-- the fields of pairs of byte slices
abbrev pub fields_at : List (Bor (List ℕ) × Bor (List ℕ)) → List Field
fields_at fs = map field_of_row fs

-- all positions of the static table with the name, rising
unfoldable pub indexes_with_name : List ℕ → List ℕ
indexes_with_name name = map (λ e. e.0) (filter (λ e. has_name name e.1) (enumerate_from 0 static_table))

-- whether a field is there and has the value
abbrev pub is_value_of : List ℕ → Option Field → Bool
is_value_of value None = false
is_value_of value (Some f) = bytes_eq value f.value

-- whether the field at an index of the static table has the value
abbrev pub has_value_at : List ℕ → ℕ → Bool
has_value_at value index = is_value_of value (slice_get static_table index)

-- names of one length: each has all its positions, and no name of that length in the static table is missing
pub record AreNamesOfLength (n : ℕ) (names : List (List ℕ × List ℕ)) : Type 0 where
  pub indexes : All (λ e. e.1 ≡ indexes_with_name e.0) names
  pub complete : (k : ℕ) (f : Field) → IsStaticAt k f → length f.name ≡ n
      → Contains names (f.name, indexes_with_name f.name)

-- rows of names, one for each length from `first` up to below `limit` (RFC 9204, Appendix A)
pub record AreNamesBetween (first limit : ℕ) (rows : List (List (List ℕ × List ℕ))) : Type 0 where
  pub at : (n : ℕ) → first ≤ n → n < limit → AreNamesOfLength n (slice_index_or rows (n - first) [])

-- the names and positions that references point to
abbrev pub names_at : List (Bor (List ℕ) × Bor (List ℕ)) → List (List ℕ × List ℕ)
names_at names = map (λ e. (e.0.now, e.1.now)) names

abbrev pub name_rows_at : List (Bor (List (Bor (List ℕ) × Bor (List ℕ)))) → List (List (List ℕ × List ℕ))
name_rows_at rows = map (λ row. names_at row.now) rows

-- the equal field of the static table at its index, or else the first field with the name (RFC 9204, Appendix A)
abbrev pub match_of : Option ℕ → Option ℕ → Option StaticMatch
match_of (Some index) first = Some (found.Field index)
match_of None (Some index) = Some (found.Name index)
match_of None None = None
