-- Header fields as clauses see them: two byte lists.
use Rattle.std.specs.Prelude.{ℕ, List, [], ◌∷◌, ◌++◌, map, Option}
use Rattle.std.specs.Borrow.{Bor}
use Rattle.std.specs.Iterator.{Drains}
use Rattle.std.specs.declared.cmp.Ordering.{Ordering}
use Rattle.std.specs.Ordering.{nat_cmp, ordering_then}
use Rattle.std.specs.Cmp.Lexicographic.{slice_cmp}
use Rattle.std.specs.Cow.{cow_slice_items}
use Rattle.std.specs.Hash.{HashWrites, slice, u8}
use Rattle.std.specs.Str.{encode_utf8_all}
use Rattle.bstr.specs.Utf8.{lossy_chars}
use Rattle.qpack_spec.specs.Field.{Field, FieldLine}
use Rattle.qpack_base.specs.declared.field.FieldLine.{FieldLine as LentLine}
use Rattle.qpack_base.specs.declared.field.HeaderField.{HeaderField}

-- the name and the value, borrowed or owned
abbrev pub field_of : HeaderField → Field
field_of f = record { name = cow_slice_items f.name; value = cow_slice_items f.value }

-- the name, the value and the mark, borrowed
abbrev pub line_of : LentLine → FieldLine
line_of f = record { field = record { name = f.name.now; value = f.value.now }; never_indexed = f.never_indexed }

-- the fields that references point to
abbrev pub fields_behind : List (Bor HeaderField) → List Field
fields_behind fs = map (λ f. field_of f.now) fs

-- the iterator gives this many fields and ends, and P holds of their list
abbrev pub DrainsFields : {S : Type 0} → (S → Option (Bor HeaderField) → S → Type 0) → S → (List Field → Type 0)
    → Type 0
DrainsFields steps it P = (fs : List (Bor HeaderField)) × Drains steps it fs × P (fields_behind fs)

-- the order of fields: by name, then by value, each byte by byte
unfoldable pub field_cmp : Field → Field → Ordering
field_cmp f g = ordering_then (slice_cmp nat_cmp f.name g.name) (slice_cmp nat_cmp f.value g.value)

-- the name, a TAB and the value, with U+FFFD in place of bytes that are not UTF-8
abbrev pub text_of : Field → List ℕ
text_of f = encode_utf8_all (lossy_chars f.name) ++ 9 ∷ [] ++ encode_utf8_all (lossy_chars f.value)

-- what a hasher is fed of a field: its two byte lists
abbrev pub hash_input_of : Field → HashWrites
hash_input_of f = slice u8 f.name ++ slice u8 f.value
