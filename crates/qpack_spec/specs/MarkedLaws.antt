-- What is written of fields some of which are marked as never to be indexed is read as these fields with their marks, as
-- statements; the crate's law functions promise them (RFC 9204, sections 4.5.4 to 4.5.6 and 7.1.3).
use Rattle.std.specs.Prelude.{◌≡◌, ◌<◌, ◌≤◌, ℕ, Bool, true, false, List, ◌∷◌, Ok}
use Rattle.qpack_spec.specs.Field.{FieldLine, fields_of_lines, total_size}
use Rattle.qpack_spec.specs.Line.{Line, NamedStatic, NamedDynamic, NamedPostBase, Literal, SpellsLine}
use Rattle.qpack_spec.specs.Line.{coded_marked_line}
use Rattle.qpack_spec.specs.Marked.{marked_rule, coded_marked_block}
use Rattle.qpack_spec.specs.Prefix.{read_prefix}
use Rattle.qpack_spec.specs.Reading.{Block, fields_of}
use Rattle.qpack_spec.specs.StrictLaws.{IsStrict}
use Rattle.qpack_spec.specs.StrictReading.{strict_reading, Read, Blocked}
use Rattle.qpack_spec.specs.Table.{Table}
use Rattle.qpack_spec.specs.Text.{Coding}
use Rattle.qpack_spec.specs.Window.{Window, maximum_capacity, window_insert_count}
use Rattle.qpack_spec.specs.WrittenLaws.{IsWritableLineUnder, IsWritableBlockUnder}

-- a literal line, which says whether its field is to stay one
abbrev pub is_literal : Line → Bool
is_literal (NamedStatic index value) = true
is_literal (NamedDynamic relative value) = true
is_literal (NamedPostBase post_base value) = true
is_literal (Literal name value) = true
is_literal l = false

-- the line of a marked field is a literal
abbrev pub AreLiteralsWhereMarked : List FieldLine → List Line → Type 0
AreLiteralsWhereMarked (f ∷ fs) (l ∷ ls) =
    (f.never_indexed ≡ true → is_literal l ≡ true) × AreLiteralsWhereMarked fs ls
AreLiteralsWhereMarked fs ls = Unit {0}

-- the rule writes a literal for each marked field
abbrev pub MarkedFieldsAreLiterals : Type 0
MarkedFieldsAreLiterals = (t : Table) (fs : List FieldLine) → AreLiteralsWhereMarked fs (marked_rule t fs).lines

-- what is written of a literal line is a spelling of it, marked or not
abbrev pub MarkedLinesAreSpellings : Type 0
MarkedLinesAreSpellings =
    (coding : Coding) (never : Bool) (l : Line) → IsWritableLineUnder coding l
    → (never ≡ true → is_literal l ≡ true) → SpellsLine (coded_marked_line coding never l) l

-- a section is read as its fields with their marks if it is written so, requires no more than was received, references
-- nothing past its required insert count, and its fields are within the limit
abbrev pub MarkedSectionsAreRead : Type 0
MarkedSectionsAreRead =
    (coding : Coding) (w : Window) (limit required base : ℕ) (b : Block) (fields : List FieldLine)
    → (let maximum = maximum_capacity w.agreed_max w.capacity in
    IsWritableBlockUnder coding b → read_prefix (window_insert_count w) maximum b.prefix ≡ Ok (required, base)
    → required ≤ window_insert_count w → IsStrict maximum required base b
    → fields_of w base b.lines ≡ Ok (fields_of_lines fields) → AreLiteralsWhereMarked fields b.lines
    → total_size (fields_of_lines fields) ≤ limit
    → strict_reading w limit (coded_marked_block coding fields b) ≡ Read fields required)

-- a section that requires more than was received is blocked, under any window that its lines mean the fields under
abbrev pub MarkedSectionsAreBlocked : Type 0
MarkedSectionsAreBlocked =
    (coding : Coding) (w later : Window) (limit required base : ℕ) (b : Block) (fields : List FieldLine)
    → (let maximum = maximum_capacity w.agreed_max w.capacity in
    IsWritableBlockUnder coding b → read_prefix (window_insert_count w) maximum b.prefix ≡ Ok (required, base)
    → window_insert_count w < required → (maximum ≡ 0 → b.prefix.count ≡ 0)
    → fields_of later base b.lines ≡ Ok (fields_of_lines fields) → total_size (fields_of_lines fields) ≤ limit
    → strict_reading w limit (coded_marked_block coding fields b) ≡ Blocked required)
