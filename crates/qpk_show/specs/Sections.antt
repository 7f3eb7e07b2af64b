-- A field section as it is shown: its prefix, and each line with where it begins and what it means (RFC 9204, section
-- 4.5).
use Rattle.std.specs.Prelude.{ℕ, zero, suc, ◌-◌, Bool, if◌then◌else◌, ◌&&◌, nat_lt, nat_le, nat_eq, List, [], ◌∷◌}
use Rattle.std.specs.Prelude.{length, Option, None, Some, Result, Ok, Err}
use Rattle.qpack_spec.specs.Bytes.{◌>>=◌}
use Rattle.qpack_spec.specs.Field.{Field}
use Rattle.qpack_spec.specs.Line.{Line}
use Rattle.qpack_spec.specs.Prefix.{Prefix, PrefixFault, read_strict_prefix}
use Rattle.qpack_spec.specs.Reading.{Fault, line_field, references_of_line, greatest_of}
use Rattle.qpack_spec.specs.StrictReading.{is_never_indexed}
use Rattle.qpack_spec.specs.Table.{Table, window, insert_count}
use Rattle.qpack_spec.specs.Window.{Window, maximum_capacity}
use Rattle.qpack_wire.specs.Alone.{KindFault}
use Rattle.qpack_wire.specs.BlockLines.{line_at}
use Rattle.qpack_wire.specs.Prefixes.{read_prefix_at}

-- a line: the offset of the section where it begins, what its bytes are, whether they ask that the field stay a
-- literal, and the field that it means
pub record LineShown : Type 0 where
  pub offset : ℕ
  pub line : Line
  pub never_indexed : Bool
  pub field : Field

-- why a line gives no field: its bytes; it references an entry past the required insert count (section 2.2.3); or it
-- references nothing that is there
pub data LineFault : Type 0 where
  Unreadable : (fault : KindFault) → LineFault
  PastRequired : (index : ℕ) → LineFault
  Meaningless : (fault : Fault) → LineFault

-- the line at this offset gives no field
pub record Stop : Type 0 where
  pub offset : ℕ
  pub fault : LineFault

-- why a section has no lines: its bytes are no prefix; the prefix is out of range; or it has a count if the maximum
-- capacity is 0 (section 4.5.1.1)
pub data PrefixRefusal : Type 0 where
  NoPrefix : (fault : KindFault) → PrefixRefusal
  BadPrefix : (fault : PrefixFault) → PrefixRefusal
  CountAtZero : PrefixRefusal

-- a section: its required insert count, its base, its lines, and the stop that ends them early; or it waits for this
-- many insertions; or it is refused for its prefix
pub data Reading : Type 0 where
  Lines : (required base : ℕ) (lines : List LineShown) (stop : Option Stop) → Reading
  Blocked : (required : ℕ) → Reading
  Refused : (refusal : PrefixRefusal) → Reading

-- what lines are read under: the window, the required insert count and the base, and the length of the section
pub record Under : Type 0 where
  pub window : Window
  pub required : ℕ
  pub base : ℕ
  pub section : ℕ

-- bytes that are no line
abbrev pub or_unreadable_line : {A : Type 0} → Result A KindFault → Result A LineFault
or_unreadable_line (Ok x) = Ok x
or_unreadable_line (Err fault) = Err (Unreadable fault)

-- a line without a meaning
abbrev pub or_meaningless : {A : Type 0} → Result A Fault → Result A LineFault
or_meaningless (Ok x) = Ok x
or_meaningless (Err fault) = Err (Meaningless fault)

-- the greatest absolute index that a line references, 0 if it references no entry
abbrev pub reference_of : ℕ → Line → ℕ
reference_of base l = greatest_of (references_of_line base l)

-- the field of a line that references nothing past the required insert count
abbrev pub shown_field : Under → Line → Result Field LineFault
shown_field u l =
    if nat_le (reference_of u.base l) u.required then or_meaningless (line_field u.window u.base l)
    else Err (PastRequired (reference_of u.base l))

-- the line that begins with this byte, at the front of these bytes of the section, and the bytes after it
abbrev pub shown_line_at : Under → ℕ → List ℕ → Result (LineShown × List ℕ) LineFault
shown_line_at u first bytes =
    or_unreadable_line (line_at bytes) >>= λ r. shown_field u r.0
    >>= λ f. Ok (
      record { offset = u.section - length bytes; line = r.0; never_indexed = is_never_indexed first; field = f },
      r.1,
    )

-- lines, and the stop that ends them early
abbrev pub Shown : Type 0
Shown = List LineShown × Option Stop

-- a line in front of others
abbrev pub with_line : LineShown → Shown → Shown
with_line l s = (l ∷ s.0, s.1)

-- a line that was read, before those that follow it; or the stop at it, this many bytes before the end of the section
abbrev pub with_next : Under → ℕ → (List ℕ → Shown) → Result (LineShown × List ℕ) LineFault → Shown
with_next u left behind (Ok r) = with_line r.0 (behind r.1)
with_next u left behind (Err fault) = ([], Some (record { offset = u.section - left; fault = fault }))

-- the lines in turn, in at most this many steps, until one gives no field
unfoldable pub shown_lines_at : ℕ → Under → List ℕ → Shown
shown_lines_at steps u [] = ([], None)
shown_lines_at zero u (b ∷ bytes) = ([], None)
shown_lines_at (suc steps) u (b ∷ bytes) =
    with_next u (length (b ∷ bytes)) (λ rest. shown_lines_at steps u rest) (shown_line_at u b (b ∷ bytes))

-- all lines of the bytes after a prefix; each takes a byte at least
abbrev pub shown_lines : Under → List ℕ → Shown
shown_lines u bytes = shown_lines_at (length bytes) u bytes

-- the section after a prefix that is in range or not
abbrev pub shown_behind : Table → ℕ → List ℕ → Result (ℕ × ℕ) PrefixFault → Reading
shown_behind t section rest (Err fault) = Refused (BadPrefix fault)
shown_behind t section rest (Ok p) =
    if nat_lt (insert_count t) p.0 then Blocked p.0
    else (
    let s = shown_lines (record { window = window t; required = p.0; base = p.1; section = section }) rest in
    Lines p.0 p.1 s.0 s.1
    )

-- the section if a prefix is at the front, or none is
abbrev pub shown_section_behind : Table → ℕ → Result (Prefix × List ℕ) KindFault → Reading
shown_section_behind t section (Err fault) = Refused (NoPrefix fault)
shown_section_behind t section (Ok p) =
    let maximum = maximum_capacity t.agreed_max t.capacity in
    if nat_eq maximum 0 && nat_lt 0 p.0.count then Refused CountAtZero
    else shown_behind t section p.1 (read_strict_prefix (insert_count t) maximum p.0)

-- what is shown of the bytes of a section under a table
unfoldable pub shown_section : Table → List ℕ → Reading
shown_section t bytes = shown_section_behind t (length bytes) (read_prefix_at bytes)
