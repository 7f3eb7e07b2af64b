-- Header fields: a name and a value (RFC 9204, section 1.1), and their size in a table.
use Rattle.std.specs.Prelude.{ℕ, ◌+◌, ◌&&◌, Bool, false, List, length, map, sum_by}
use Rattle.std.specs.Str.{bytes_eq}

-- a name and a value, two byte lists
pub record Field : Type 0 where
  pub name : List ℕ
  pub value : List ℕ

-- what an entry takes of a table: its bytes and 32 (RFC 9204, section 3.2.1)
abbrev pub field_size : Field → ℕ
field_size f = length f.name + length f.value + 32

-- the size of a list of fields, the sum of theirs
abbrev pub total_size : List Field → ℕ
total_size fs = sum_by field_size fs

-- whether two fields have the same name, byte for byte
abbrev pub has_name : List ℕ → Field → Bool
has_name name f = bytes_eq name f.name

-- whether two fields are the same, byte for byte
abbrev pub is_field : Field → Field → Bool
is_field f g = bytes_eq f.name g.name && bytes_eq f.value g.value

-- a field line (RFC 9110, section 5): a field, and whether it is to stay a literal wherever it is sent on (RFC 9204,
-- section 7.1.3)
pub record FieldLine : Type 0 where
  pub field : Field
  pub never_indexed : Bool

-- the fields alone
abbrev pub fields_of_lines : List FieldLine → List Field
fields_of_lines fs = map (λ f. f.field) fs

-- a field that may be indexed
abbrev pub unmarked : Field → FieldLine
unmarked f = record { field = f; never_indexed = false }
