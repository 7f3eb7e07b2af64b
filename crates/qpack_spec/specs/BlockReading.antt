-- What the bytes of a field section mean under a window (RFC 9204, sections 2.2.1 and 4.5): in reading order, the first
-- fault decides.
use Rattle.std.specs.Prelude.{◌≡◌, ℕ, zero, suc, if◌then◌else◌, nat_lt, List, [], ◌∷◌, ◌++◌, length, Result, Ok}
use Rattle.std.specs.Prelude.{Err}
use Rattle.qpack_spec.specs.Bytes.{◌>>=◌}
use Rattle.qpack_spec.specs.Field.{Field}
use Rattle.qpack_spec.specs.Form.{FormFault, form_at}
use Rattle.qpack_spec.specs.Line.{Line, line_form, SpellsLine, coded_lines}
use Rattle.qpack_spec.specs.Text.{Coding, Always}
use Rattle.qpack_spec.specs.Stream.{SpellsAll}
use Rattle.qpack_spec.specs.Prefix.{Prefix, PrefixFault, base_behind, read_prefix, written_prefix, prefix_at}
use Rattle.qpack_spec.specs.Window.{Window, maximum_capacity, window_insert_count}
use Rattle.qpack_spec.specs.History.{History, whole_window}
use Rattle.qpack_spec.specs.Reading.{Fault, BadForm, BadPrefix, line_field, fields_of, Block, Reading, Missing, Faulty}
use Rattle.qpack_spec.specs.Reading.{reading_of_fields}

-- why the next line gives no field: its bytes, or what it references
pub data StopsAt (w : Window) (base : ℕ) (rest : List ℕ) (e : Fault) : Type 0 where
  in_bytes : (fault : FormFault) → form_at line_form rest ≡ Err fault → e ≡ BadForm fault → StopsAt w base rest e
  in_line : (encoding more : List ℕ) (l : Line) → rest ≡ encoding ++ more → SpellsLine encoding l → line_field w base l
      ≡ Err e
      → StopsAt w base rest e

-- the bytes are lines, which mean the fields
pub record ReadsAll (w : Window) (base : ℕ) (bytes : List ℕ) (fs : List Field) : Type 0 where
  pub lines : List Line
  pub joined : SpellsAll SpellsLine bytes lines
  pub means : fields_of w base lines ≡ Ok fs

-- after lines that mean fields, the next line gives none
pub record ReadsSome (w : Window) (base : ℕ) (bytes : List ℕ) (e : Fault) : Type 0 where
  pub lines : List Line
  pub front : List ℕ
  pub next : ℕ
  pub more : List ℕ
  pub cut : bytes ≡ front ++ next ∷ more
  pub joined : SpellsAll SpellsLine front lines
  pub so_far : List Field
  pub means : fields_of w base lines ≡ Ok so_far
  pub stops : StopsAt w base (next ∷ more) e

-- what the bytes of lines give: fields, or the first fault
abbrev pub ReadsTo : Window → ℕ → List ℕ → Result (List Field) Fault → Type 0
ReadsTo w base bytes (Ok fs) = ReadsAll w base bytes fs
ReadsTo w base bytes (Err e) = ReadsSome w base bytes e

-- ---- reading from left to right

-- a form's fault as a section's
abbrev pub or_bad_form : {A : Type 0} → Result A FormFault → Result A Fault
or_bad_form (Ok x) = Ok x
or_bad_form (Err e) = Err (BadForm e)

-- the fields of the lines in turn, in at most this many steps
unfoldable pub fields_at : ℕ → Window → ℕ → List ℕ → Result (List Field) Fault
fields_at steps w base [] = Ok []
fields_at zero w base (b ∷ bytes) = Ok []
fields_at (suc steps) w base (b ∷ bytes) =
    or_bad_form (form_at line_form (b ∷ bytes)) >>= λ r. line_field w base r.0 >>= λ f. fields_at steps w base r.1
    >>= λ fs. Ok (f ∷ fs)

-- the fields of the bytes after a prefix; each line takes a byte at least
abbrev pub fields_in_bytes : Window → ℕ → List ℕ → Result (List Field) Fault
fields_in_bytes w base bytes = fields_at (length bytes) w base bytes

-- the reading after a prefix that was read
abbrev pub bytes_behind : Window → List ℕ → Result (ℕ × ℕ) PrefixFault → Reading
bytes_behind w rest (Err e) = Faulty (BadPrefix e)
bytes_behind w rest (Ok p) =
    if nat_lt (window_insert_count w) p.0 then Missing p.0 else reading_of_fields (fields_in_bytes w p.1 rest)
    (nat_lt 0 p.0)

-- the reading if a prefix is at the front, or none is
abbrev pub section_behind : Window → Result (Prefix × List ℕ) FormFault → Reading
section_behind w (Err e) = Faulty (BadForm e)
section_behind w (Ok p) = bytes_behind w p.1
    (read_prefix (window_insert_count w) (maximum_capacity w.agreed_max w.capacity) p.0)

-- what the bytes of a field section mean under a window (section 2.2.1)
unfoldable pub reading_of_bytes : Window → List ℕ → Reading
reading_of_bytes w bytes = section_behind w (prefix_at bytes)

-- a prefix's fault as a section's
abbrev pub or_bad_prefix : {A : Type 0} → Result A PrefixFault → Result A Fault
or_bad_prefix (Ok x) = Ok x
or_bad_prefix (Err e) = Err (BadPrefix e)

-- what the lines of a section mean over all insertions ever made, its required insert count being known: absolute index
-- i is the i-th of them, whatever the capacity, the evictions and the deliveries
unfoldable pub meaning_over_all : History → List ℕ → ℕ → Result (List Field) Fault
meaning_over_all all bytes required =
    or_bad_form (prefix_at bytes) >>= λ p. or_bad_prefix (base_behind p.0 required)
    >>= λ base. fields_in_bytes (whole_window all) base p.1

-- the bytes that are written of a block under a coding
unfoldable pub coded_block : Coding → Block → List ℕ
coded_block coding b = written_prefix b.prefix ++ coded_lines coding b.lines

-- the same where every string is coded
abbrev pub written_block : Block → List ℕ
written_block b = coded_block Always b
