-- What a field section means under a window (RFC 9204, sections 2.2.1 and 4.5).
use Rattle.std.specs.Prelude.{ℕ, ◌+◌, ◌-◌, max, Bool, if◌then◌else◌, ◌&&◌, nat_lt, List, [], ◌∷◌, ◌++◌, length, Option}
use Rattle.std.specs.Prelude.{None, Some, slice_get, Result, Ok, Err}
use Rattle.qpack_spec.specs.Field.{Field}
use Rattle.qpack_spec.specs.StaticTable.{static_table}
use Rattle.qpack_spec.specs.Form.{FormFault}
use Rattle.qpack_spec.specs.Line.{Line, IndexedStatic, IndexedDynamic, IndexedPostBase, NamedStatic, NamedDynamic}
use Rattle.qpack_spec.specs.Line.{NamedPostBase, Literal}
use Rattle.qpack_spec.specs.Prefix.{Prefix, PrefixFault, read_prefix}
use Rattle.qpack_spec.specs.Window.{Window, maximum_capacity, window_insert_count, with_value}

-- why a field section is malformed: its bytes, its prefix, or a line that references no entry: one below the window or
-- in an empty one, one above it (with its position), one after the base, or no static field
pub data Fault : Type 0 where
  BadForm : (fault : FormFault) → Fault
  BadPrefix : (fault : PrefixFault) → Fault
  BelowWindow : (relative : ℕ) → Fault
  AboveWindow : (position : ℕ) → Fault
  BehindBase : (post_base : ℕ) → Fault
  NotStatic : (index : ℕ) → Fault

-- what is there, or the fault
abbrev pub or_fault : Option Field → Fault → Result Field Fault
or_fault None e = Err e
or_fault (Some f) e = Ok f

-- the static field of an index (section 3.1)
unfoldable pub static_field : ℕ → Result Field Fault
static_field index = or_fault (slice_get static_table index) (NotStatic index)

-- the field of a relative index: the entry of the absolute index base - relative (section 3.2.5)
unfoldable pub relative_field : Window → ℕ → ℕ → Result Field Fault
relative_field w base relative =
    if nat_lt w.dropped (base - relative) && nat_lt 0 (length w.live)
    then or_fault (slice_get w.live (base - relative - w.dropped - 1)) (AboveWindow (base - relative - w.dropped - 1))
    else Err (BelowWindow relative)

-- the field of a post-base index: the entry of the absolute index base + post_base + 1 (section 3.2.6)
unfoldable pub post_base_field : Window → ℕ → ℕ → Result Field Fault
post_base_field w base post_base =
    if nat_lt w.dropped (base + post_base + 1)
    then or_fault (slice_get w.live (base + post_base - w.dropped)) (BehindBase post_base)
    else Err (BehindBase post_base)

-- a name that is there, with its value
abbrev pub field_with_value : List ℕ → Result Field Fault → Result Field Fault
field_with_value value (Ok f) = Ok (with_value value f)
field_with_value value (Err e) = Err e

-- the field that a line means (sections 4.5.2 to 4.5.6)
unfoldable pub line_field : Window → ℕ → Line → Result Field Fault
line_field w base (IndexedStatic index) = static_field index
line_field w base (IndexedDynamic relative) = relative_field w base relative
line_field w base (IndexedPostBase post_base) = post_base_field w base post_base
line_field w base (NamedStatic index value) = field_with_value value (static_field index)
line_field w base (NamedDynamic relative value) = field_with_value value (relative_field w base relative)
line_field w base (NamedPostBase post_base value) = field_with_value value (post_base_field w base post_base)
line_field w base (Literal name value) = Ok (record { name = name; value = value })

-- a field and those after it
abbrev pub prepend_field : Result Field Fault → Result (List Field) Fault → Result (List Field) Fault
prepend_field (Ok f) (Ok fs) = Ok (f ∷ fs)
prepend_field (Ok f) (Err e) = Err e
prepend_field (Err e) r = Err e

-- the fields that the lines mean, in order, or the first fault
unfoldable pub fields_of : Window → ℕ → List Line → Result (List Field) Fault
fields_of w base [] = Ok []
fields_of w base (l ∷ ls) = prepend_field (line_field w base l) (fields_of w base ls)

-- the absolute indexes that a line references
unfoldable pub references_of_line : ℕ → Line → List ℕ
references_of_line base (IndexedStatic index) = []
references_of_line base (IndexedDynamic relative) = (base - relative) ∷ []
references_of_line base (IndexedPostBase post_base) = (base + post_base + 1) ∷ []
references_of_line base (NamedStatic index value) = []
references_of_line base (NamedDynamic relative value) = (base - relative) ∷ []
references_of_line base (NamedPostBase post_base value) = (base + post_base + 1) ∷ []
references_of_line base (Literal name value) = []

-- the absolute indexes that the lines reference, in order
unfoldable pub references_of : ℕ → List Line → List ℕ
references_of base [] = []
references_of base (l ∷ ls) = references_of_line base l ++ references_of base ls

-- the greatest of some indexes, 0 of none: a section's required insert count is that of what it references (section
-- 2.1.2)
unfoldable pub greatest_of : List ℕ → ℕ
greatest_of [] = 0
greatest_of (a ∷ more) = max a (greatest_of more)

-- an encoded field section: its prefix and its lines (section 4.5)
pub record Block : Type 0 where
  pub prefix : Prefix
  pub lines : List Line

-- the reading of a decoder: the fields and whether anything is required, that entries are missing, or a fault
pub data Reading : Type 0 where
  Fields : (fields : List Field) (is_dynamic : Bool) → Reading
  Missing : (required : ℕ) → Reading
  Faulty : (fault : Fault) → Reading

-- the reading for fields, or for the first fault
abbrev pub reading_of_fields : Result (List Field) Fault → Bool → Reading
reading_of_fields (Ok fs) is_dynamic = Fields fs is_dynamic
reading_of_fields (Err e) is_dynamic = Faulty e

-- the reading after a prefix. The whole prefix is read first, so a base below 0 is reported before missing entries
abbrev pub reading_behind : Window → List Line → Result (ℕ × ℕ) PrefixFault → Reading
reading_behind w lines (Err e) = Faulty (BadPrefix e)
reading_behind w lines (Ok p) =
    if nat_lt (window_insert_count w) p.0 then Missing p.0 else reading_of_fields (fields_of w p.1 lines) (nat_lt 0 p.0)

-- what a field section means under a window (section 2.2.1)
unfoldable pub reading : Window → Block → Reading
reading w b = reading_behind w b.lines
    (read_prefix (window_insert_count w) (maximum_capacity w.agreed_max w.capacity) b.prefix)
