-- A field that is packed into one list of bytes.
use Rattle.std.specs.Prelude.{◌≡◌, ℕ, ◌-◌, ◌≤◌, List, [], length, take, drop, Option, Some, None, option_map, unwrap_or}
use Rattle.std.specs.Prelude.{slice_get, IfSome, IsSome}
use Rattle.qpack_spec.specs.Field.{Field}
use Rattle.qpack_spec.specs.StaticTable.{static_table}

-- the name of the static field at an index, if there is an index, or else these bytes
abbrev pub packed_name : List ℕ → Option ℕ → List ℕ
packed_name own None = own
packed_name own (Some index) = unwrap_or (option_map (λ f. f.name) (slice_get static_table index)) []

-- the field of the bytes of a value and, after it, of a name of this length
abbrev pub packed_field : List ℕ → ℕ → Option ℕ → Field
packed_field bytes name_len static_name = record {
  name = packed_name (drop (length bytes - name_len) bytes) static_name;
  value = take (length bytes - name_len) bytes;
}

-- the bytes hold the name; or a static field has it, and they hold none of it
pub record IsPacked (bytes : List ℕ) (name_len : ℕ) (static_name : Option ℕ) : Type 0 where
  pub fits : name_len ≤ length bytes
  pub known : IfSome static_name (λ index. IsSome (slice_get static_table index))
  pub once : IfSome static_name (λ _. name_len ≡ 0)
