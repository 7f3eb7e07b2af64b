-- What a field section means to a strict decoder with a limit on its fields' sizes, each field with whether it is to
-- stay a literal (RFC 9204, sections 2.2.1, 2.2.3, 4.5 and 7.1.3). It is the reading of the section, refused in some
-- more cases: a section longer than any within the limit, unread; a count if there can never be an entry; a base below
-- 0 if nothing is required; a line that references an entry past the required insert count; and a field at which the
-- sizes pass the limit.
use Rattle.std.specs.Prelude.{◌≡◌, ℕ, zero, suc, ◌+◌, ◌-◌, ◌/◌, ◌%◌, ◌^◌, ◌≤◌, ◌⊎◌, Bool, true, false}
use Rattle.std.specs.Prelude.{if◌then◌else◌, ◌&&◌, nat_lt, nat_le, nat_eq, min, negsuc, List, [], ◌∷◌, length, map}
use Rattle.std.specs.Prelude.{Result, Ok, Err}
use Rattle.qpack_spec.specs.Bytes.{◌>>=◌}
use Rattle.qpack_spec.specs.Field.{Field, FieldLine, fields_of_lines, field_size, total_size}
use Rattle.qpack_spec.specs.Form.{FormFault, form_at}
use Rattle.qpack_spec.specs.Line.{Line, line_form}
use Rattle.qpack_spec.specs.Prefix.{Prefix, PrefixFault, BelowZero, read_required, read_prefix, read_strict_prefix}
use Rattle.qpack_spec.specs.Prefix.{prefix_at}
use Rattle.qpack_spec.specs.Window.{Window, maximum_capacity, window_insert_count}
use Rattle.qpack_spec.specs.Reading.{Fault, BadForm, BadPrefix, line_field, references_of_line, greatest_of}
use Rattle.qpack_spec.specs.Reading.{Reading, Fields, Missing, Faulty, Block, fields_of}
use Rattle.qpack_spec.specs.BlockReading.{or_bad_form, reading_of_bytes, coded_block}
use Rattle.qpack_spec.specs.Stateless.{saturated_size}
use Rattle.qpack_spec.specs.LengthLaws.{longest_section}
use Rattle.qpack_spec.specs.StrictLaws.{IsStrict}
use Rattle.qpack_spec.specs.Text.{Coding}
use Rattle.qpack_spec.specs.WrittenLaws.{IsWritableBlockUnder}

-- whether the first byte of a line asks that its field stay a literal: the bit N of 0000N, 001NH and 01NT (sections
-- 4.5.4 to 4.5.6)
unfoldable pub is_never_indexed : ℕ → Bool
is_never_indexed first =
    if nat_lt first 16 then nat_eq (first / 8 % 2) 1
    else if nat_lt first 32 then false
    else if nat_lt first 64 then nat_eq (first / 16 % 2) 1
    else if nat_lt first 128 then nat_eq (first / 32 % 2) 1
    else false

-- why a line gives no field: it means none; it references an entry past the required insert count; or with its field
-- the sizes have this sum, which passes the limit
pub data LineFault : Type 0 where
  Meaningless : (fault : Fault) → LineFault
  PastRequired : (index : ℕ) → LineFault
  TooLarge : (sum : ℕ) → LineFault

-- why a section is refused: it is longer than any within the limit; its prefix; a count if the maximum capacity is 0
-- (section 4.5.1.1); or the line of this number, the first one being 1, at this offset of the section
pub data SectionFault : Type 0 where
  TooLong : SectionFault
  InPrefix : (fault : Fault) → SectionFault
  CountAtZero : SectionFault
  InLine : (number offset : ℕ) (fault : LineFault) → SectionFault

-- the reading of a strict decoder: the fields and the required insert count, the count if it exceeds the insertions
-- that were received, or a fault
pub data StrictReading : Type 0 where
  Read : (fields : List FieldLine) (required : ℕ) → StrictReading
  Blocked : (required : ℕ) → StrictReading
  Refused : (fault : SectionFault) → StrictReading

-- what lines are read under: the window, the required insert count and the base, the limit on sizes, and the length of
-- the section that they end
pub record LinesUnder : Type 0 where
  pub window : Window
  pub required : ℕ
  pub base : ℕ
  pub limit : ℕ
  pub section : ℕ

-- a fault of the reading, as a line's
abbrev pub or_meaningless : {A : Type 0} → Result A Fault → Result A LineFault
or_meaningless (Ok x) = Ok x
or_meaningless (Err e) = Err (Meaningless e)

-- a line's fault, at its number and offset
abbrev pub or_in_line : {A : Type 0} → ℕ → ℕ → Result A LineFault → Result A SectionFault
or_in_line number offset (Ok x) = Ok x
or_in_line number offset (Err e) = Err (InLine number offset e)

-- a field, unless the sizes pass the limit with it, those so far having this sum
unfoldable pub within_size : ℕ → ℕ → Field → Result Field LineFault
within_size limit sum f =
    if nat_lt limit (saturated_size (sum + field_size f)) then Err
    (TooLarge (saturated_size (sum + field_size f))) else Ok f

-- the field of a line that references nothing past the required insert count (section 2.2.3)
unfoldable pub strict_field : LinesUnder → Line → Result Field LineFault
strict_field u l =
    if nat_le (greatest_of (references_of_line u.base l)) u.required
    then or_meaningless (line_field u.window u.base l)
    else Err (PastRequired (greatest_of (references_of_line u.base l)))

-- the field of the next line, which begins with this byte, and the bytes after it; the sizes so far have this sum
unfoldable pub strict_line_at : LinesUnder → ℕ → ℕ → List ℕ → Result (FieldLine × List ℕ) LineFault
strict_line_at u sum first more =
    or_meaningless (or_bad_form (form_at line_form (first ∷ more))) >>= λ r. strict_field u r.0
    >>= λ f. within_size u.limit sum f
    >>= λ g. Ok (record { field = g; never_indexed = is_never_indexed first }, r.1)

-- the fields of the lines in turn, in at most this many steps; `number` lines were read, whose sizes have this sum
unfoldable pub strict_lines_at : ℕ → LinesUnder → ℕ → ℕ → List ℕ → Result (List FieldLine) SectionFault
strict_lines_at steps u number sum [] = Ok []
strict_lines_at zero u number sum (b ∷ bytes) = Ok []
strict_lines_at (suc steps) u number sum (b ∷ bytes) =
    or_in_line (suc number) (u.section - length (b ∷ bytes)) (strict_line_at u sum b bytes)
    >>= λ r. strict_lines_at steps u (suc number) (sum + field_size r.0.field) r.1 >>= λ fs. Ok (r.0 ∷ fs)

-- the reading for the fields of the lines, or for the first fault
abbrev pub lines_behind : ℕ → Result (List FieldLine) SectionFault → StrictReading
lines_behind required (Ok fs) = Read fs required
lines_behind required (Err e) = Refused e

-- the reading after a prefix that was read; each line takes a byte at least
abbrev pub strict_behind : Window → ℕ → ℕ → List ℕ → Result (ℕ × ℕ) PrefixFault → StrictReading
strict_behind w limit section rest (Err e) = Refused (InPrefix (BadPrefix e))
strict_behind w limit section rest (Ok p) =
    if nat_lt (window_insert_count w) p.0 then Blocked p.0
    else lines_behind p.0
    (strict_lines_at (length rest)
    (record { window = w; required = p.0; base = p.1; limit = limit; section = section }) 0 0 rest)

-- the reading if a prefix is at the front, or none is
abbrev pub strict_section_behind : Window → ℕ → ℕ → Result (Prefix × List ℕ) FormFault → StrictReading
strict_section_behind w limit section (Err e) = Refused (InPrefix (BadForm e))
strict_section_behind w limit section (Ok p) =
    let maximum = maximum_capacity w.agreed_max w.capacity in
    if nat_eq maximum 0 && nat_lt 0 p.0.count then Refused CountAtZero
    else strict_behind w limit section p.1 (read_strict_prefix (window_insert_count w) maximum p.0)

-- what the bytes of a field section mean to a strict decoder under a window, with this limit
unfoldable pub strict_reading : Window → ℕ → List ℕ → StrictReading
strict_reading w limit bytes =
    if nat_lt (longest_section limit) (length bytes) then Refused TooLong
    else strict_section_behind w limit (length bytes) (prefix_at bytes)

-- ---- what is promised

-- what the reading of a section is if a strict decoder reads it so: the fields, the count and the fault of what both
-- read are the same; it says nothing if only the strict one refuses
abbrev pub SaysReading : Reading → StrictReading → Type 0
SaysReading r (Read fields required) = r ≡ Fields (fields_of_lines fields) (nat_lt 0 required)
SaysReading r (Blocked required) = r ≡ Missing required
SaysReading r (Refused (InPrefix fault)) = r ≡ Faulty fault
SaysReading r (Refused (InLine number offset (Meaningless fault))) = r ≡ Faulty fault
SaysReading r (Refused fault) = Unit {0}

-- a prefix that requires nothing and has the sign bit: its base is below 0 (section 4.5.1.2)
abbrev pub IsBelowZero : ℕ → ℕ → Prefix → Type 0
IsBelowZero total maximum p = (read_required total maximum p.count ≡ Ok 0) × (p.sign ≡ true)

-- the two readings of a prefix agree, except if it requires nothing and has the sign bit: then a strict decoder refuses
-- the base, which saturates at the least number of 64 bits, and the other reading is 0 and 0
abbrev pub StrictPrefixesAgree : Type 0
StrictPrefixesAgree =
    (total maximum : ℕ) (p : Prefix)
    → ((IsBelowZero total maximum p → ⊥) → read_strict_prefix total maximum p ≡ read_prefix total maximum p)
    × (IsBelowZero total maximum p
    → (read_strict_prefix total maximum p ≡ Err (BelowZero (negsuc (min p.delta (2 ^ 63 - 1)))))
    × (read_prefix total maximum p ≡ Ok (0, 0)))

-- a section with such a prefix: a strict decoder refuses its base
pub record RefusesBelowZero (w : Window) (bytes : List ℕ) (r : StrictReading) : Type 0 where
  pub prefix : Prefix
  pub rest : List ℕ
  pub begins : prefix_at bytes ≡ Ok (prefix, rest)
  pub below : IsBelowZero (window_insert_count w) (maximum_capacity w.agreed_max w.capacity) prefix
  pub refused : r ≡ Refused (InPrefix (BadPrefix (BelowZero (negsuc (min prefix.delta (2 ^ 63 - 1))))))

-- a strict decoder reads what the section means, or refuses it; it refuses a base below 0 also if nothing is required
abbrev pub StrictReadingsAreReadings : Type 0
StrictReadingsAreReadings =
    (w : Window) (limit : ℕ) (bytes : List ℕ)
    → SaysReading (reading_of_bytes w bytes) (strict_reading w limit bytes)
    ⊎ RefusesBelowZero w bytes (strict_reading w limit bytes)

-- what a strict decoder reads is within the limit
abbrev pub StrictReadingsAreWithin : Type 0
StrictReadingsAreWithin =
    (w : Window) (limit : ℕ) (bytes : List ℕ) (fields : List FieldLine) (required : ℕ)
    → strict_reading w limit bytes ≡ Read fields required → saturated_size (total_size (fields_of_lines fields)) ≤ limit

-- fields that may all be indexed
abbrev pub indexable : List Field → List FieldLine
indexable fs = map (λ f. record { field = f; never_indexed = false }) fs

-- a section is read as what it means if it is written so, requires no more than was received, references nothing past
-- its required insert count, and its fields are within the limit
abbrev pub StrictSectionsAreRead : Type 0
StrictSectionsAreRead =
    (coding : Coding) (w : Window) (limit required base : ℕ) (b : Block) (fields : List Field)
    → (let maximum = maximum_capacity w.agreed_max w.capacity in
    IsWritableBlockUnder coding b → read_prefix (window_insert_count w) maximum b.prefix ≡ Ok (required, base)
    → required ≤ window_insert_count w → IsStrict maximum required base b → fields_of w base b.lines ≡ Ok fields
    → total_size fields ≤ limit
    → strict_reading w limit (coded_block coding b) ≡ Read (indexable fields) required)
