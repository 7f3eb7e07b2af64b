-- What reading the lines of a section onto a text returns (RFC 9204, sections 2.2.3 and 4.5.2 to 4.5.6).
use Rattle.std.specs.Prelude.{◌≡◌, ◌≤◌, ◌<◌, ℕ, ◌+◌, ◌-◌, ◌^◌, min, ⊤, if◌then◌else◌, nat_le, List, [], ◌∷◌, ◌++◌}
use Rattle.std.specs.Prelude.{length, Result, Ok, Err, IsOk, Some, ◌⊎◌}
use Rattle.qpack_spec.specs.Bytes.{◌>>=◌}
use Rattle.qpack_spec.specs.Field.{Field, field_size, FieldLine}
use Rattle.qpack_spec.specs.Form.{FormFault, Form, made_at}
use Rattle.qpack_spec.specs.Line.{Line}
use Rattle.qpack_spec.specs.Reading.{Fault, static_field, relative_field, post_base_field}
use Rattle.qpack_spec.specs.BlockReading.{or_bad_form}
use Rattle.qpack_spec.specs.Stateless.{saturated_size}
use Rattle.qpack_spec.specs.StrictReading.{LineFault, LinesUnder, or_meaningless, strict_field}
use Rattle.qpack_spec.specs.StrictReading as strict
use Rattle.qpack_spec.specs.Table.{window}
use Rattle.qpack_base.specs.Cursor.{CursorView}
use Rattle.qpack_base.specs.Writes.{kept_within}
use Rattle.qpack_base.specs.declared.parse_error.ParseError.{ParseError}
use Rattle.qpack_base.specs.declared.static_.Error.{Error as StaticError}
use Rattle.qpack_table.specs.declared.dynamic.Error.{Error as TableError}
use Rattle.qpack_wire.specs.Memory.{AsksFormAt}
use Rattle.qpack_codec.specs.Errors.{decoder_error_of_parse, decoder_error_of_table, decoder_error_of_static}
use Rattle.qpack_codec.specs.Sections.{Tells}
use Rattle.qpack_codec.specs.declared.error.DecoderError.{DecoderError}
use Rattle.qpack_codec.specs.declared.error.DecoderError.TheVariants as decoder
use Rattle.qpack_decoding.specs.declared.section.LineError.{LineError}
use Rattle.qpack_decoding.specs.declared.section.LineError.TheVariants.{Meaningless, PastRequired, TooLarge, Memory}
use Rattle.qpack_decoding.specs.declared.field_section.Span.{Span}
use Rattle.qpack_decoding.specs.declared.section.lines.Lengths.{Lengths}
use Rattle.qpack_decoding.specs.declared.section.lines.Lines.{Lines}
use Rattle.qpack_wire.specs.declared.block.line.Reference.{Reference}
use Rattle.qpack_wire.specs.declared.block.line.Reference.TheVariants.{Static, Relative, PostBase}
use Rattle.qpack_decoding.specs.FieldSections.{IsWithin, field_at}

-- ---- errors

-- an error of the decoder, as a line's; out of memory stays itself
abbrev pub line_error_of : DecoderError → LineError
line_error_of decoder.Memory = Memory
line_error_of e = Meaningless e

abbrev pub line_error_of_parse : ParseError → LineError
line_error_of_parse e = line_error_of (decoder_error_of_parse e)

abbrev pub line_error_of_table : TableError → LineError
line_error_of_table e = line_error_of (decoder_error_of_table e)

abbrev pub line_error_of_static : StaticError → LineError
line_error_of_static e = line_error_of (decoder_error_of_static e)

-- the error reports this fault; an index is reported up to the greatest number of 64 bits
abbrev pub TellsLine : LineError → LineFault → Type 0
TellsLine (Meaningless e) (strict.Meaningless fault) = Tells e fault
TellsLine (PastRequired index) (strict.PastRequired absolute) = index ≡ min absolute (2 ^ 64 - 1)
TellsLine (TooLarge sum) (strict.TooLarge all) = sum ≡ all
TellsLine e fault = ⊥

-- the error reports the fault that was read
abbrev pub TellsFault : {A : Type 0} → LineError → Result A LineFault → Type 0
TellsFault e (Ok x) = ⊥
TellsFault e (Err fault) = TellsLine e fault

-- the error reports the fault that was read, or out of memory
abbrev pub FailsLine : {A : Type 0} → LineError → Result A LineFault → Type 0
FailsLine Memory read = Unit {0}
FailsLine e read = TellsFault e read

-- ---- parts of a line

-- the fault of bytes, as a line's
abbrev pub or_bad_line : {A : Type 0} → Result A FormFault → Result A LineFault
or_bad_line r = or_meaningless (or_bad_form r)

-- an index was read, under any flags, and the cursor is after it; or it is rejected
abbrev pub ReadsIndex : CursorView → CursorView → Result ℕ LineError → Result (ℕ × ℕ × List ℕ) FormFault → Type 0
ReadsIndex old new (Ok index) read = ((flags : ℕ) × (read ≡ Ok (flags, index, new.rest))) × (new.total ≡ old.total)
ReadsIndex old new (Err e) read = FailsLine e (or_bad_line read)

-- a string was read, and appended to the text if it has at most this many bytes; its length is returned, and the cursor
-- is after it. Or it is rejected, and the text is unchanged
abbrev pub AppendsText : ℕ → CursorView → CursorView → List ℕ → List ℕ → Result ℕ LineError
    → Result (ℕ × List ℕ × List ℕ) FormFault → Type 0
AppendsText most old new text_old text_new (Ok len) read =
    (flags : ℕ) × (value : List ℕ) × (read ≡ Ok (flags, value, new.rest)) × (len ≡ length value)
    × (text_new ≡ text_old ++ kept_within most value) × (new.total ≡ old.total)
AppendsText most old new text_old text_new (Err e) read = FailsLine e (or_bad_line read) × (text_new ≡ text_old)

-- the field's name is appended to the text if it has at most this many bytes, and its length is returned
abbrev pub AppendsName : ℕ → List ℕ → List ℕ → Result ℕ LineError → Result Field LineFault → Type 0
AppendsName most old new (Ok len) read =
    (f : Field) × (read ≡ Ok f) × (len ≡ length f.name) × (new ≡ old ++ kept_within most f.name)
AppendsName most old new (Err e) read = FailsLine e read × (new ≡ old)

-- the text may have grown at its end
abbrev pub Extends : List ℕ → List ℕ → Type 0
Extends old new = (more : List ℕ) × (new ≡ old ++ more)

-- the lengths are the field's, and it is appended to the text if it has at most this many bytes
pub record Stands (most : ℕ) (old new : List ℕ) (lengths : Lengths) (f : Field) : Type 0 where
  pub name : lengths.name ≡ length f.name
  pub value : lengths.value ≡ length f.value
  pub text : length f.name + length f.value ≤ most → new ≡ old ++ f.name ++ f.value
  pub extends : Extends old new

-- the field is appended to the text if it has at most this many bytes; or why not
abbrev pub AppendsEntry : ℕ → List ℕ → List ℕ → Result Lengths LineError → Result Field LineFault → Type 0
AppendsEntry most old new (Ok lengths) read = (f : Field) × (read ≡ Ok f) × Stands most old new lengths f
AppendsEntry most old new (Err e) read = FailsLine e read × Extends old new

-- ---- lines

-- what the lines of a section of this many bytes are read under
abbrev pub under : {I F Key : Type 0} → Lines I F Key → ℕ → LinesUnder
under l section =
    record { window = window l.table.now; required = l.required; base = l.base; limit = l.limit; section = section }

-- a reference is not past the required insert count; or it is, and that is reported (section 2.2.3)
abbrev pub ChecksRequired : Result ⊤ LineError → ℕ → ℕ → Type 0
ChecksRequired (Ok done) required absolute = absolute ≤ required
ChecksRequired (Err e) required absolute = (e ≡ PastRequired (min absolute (2 ^ 64 - 1))) × (required < absolute)

-- what was found of an entry that is not past the required insert count (section 2.2.3)
abbrev pub strict_entry : ℕ → ℕ → Result Field Fault → Result Field LineFault
strict_entry required absolute found =
    if nat_le absolute required then or_meaningless found else Err (strict.PastRequired absolute)

-- the entry or the static field of an index (sections 3.1, 3.2.5 and 3.2.6)
abbrev pub entry_of : LinesUnder → Reference → ℕ → Result Field LineFault
entry_of u Static index = or_meaningless (static_field index)
entry_of u Relative index = strict_entry u.required (u.base - index) (relative_field u.window u.base index)
entry_of u PostBase index = strict_entry u.required (u.base + index + 1) (post_base_field u.window u.base index)

-- the field of what a form made of bytes, and the bytes after it
abbrev pub field_of_form : LinesUnder → Result (Line × List ℕ) FormFault → Result (Field × List ℕ) LineFault
field_of_form u r = or_bad_line r >>= λ r. strict_field u r.0 >>= λ f. Ok (f, r.1)

-- memory may be asked for: a whole form is at the front of the bytes, or a string of it whose payload is not empty
-- (section 4.1.2)
abbrev pub AsksInForm : Form Line → List ℕ → Type 0
AsksInForm form bytes = IsOk (made_at form bytes) ⊎ AsksFormAt (Some form) bytes

-- the line's field is appended to the text if it has at most this many bytes, and the cursor is after the line; or why
-- not
abbrev pub AppendsLine : ℕ → CursorView → CursorView → List ℕ → List ℕ → Result Lengths LineError
    → Result (Field × List ℕ) LineFault → Type 0
AppendsLine most old new text_old text_new (Ok lengths) read =
    (f : Field) × (read ≡ Ok (f, new.rest)) × Stands most text_old text_new lengths f × (new.total ≡ old.total)
AppendsLine most old new text_old text_new (Err e) read = FailsLine e read × Extends text_old text_new

-- a field was read: its span is after the others, its strings are all that was added to the text, and the sizes have
-- this sum with it
pub record Adds (old new : CursorView) (text_old text_new : List ℕ) (spans_old spans_new : List Span) (all sum : ℕ)
    (read : Result (FieldLine × List ℕ) LineFault) : Type 0 where
  pub field : FieldLine
  pub is : read ≡ Ok (field, new.rest)
  pub span : Span
  pub spans : spans_new ≡ spans_old ++ span ∷ []
  pub more : List ℕ
  pub text : text_new ≡ text_old ++ more
  pub within : IsWithin (length text_new) (length text_old) span
  pub end : span.end ≡ length text_new
  pub at : field_at text_new (length text_old) span ≡ field
  pub sum_is : sum ≡ saturated_size (all + field_size field.field)
  pub shorter : length new.rest < length old.rest
  pub total : new.total ≡ old.total

-- the line's field was read, the sizes before it having the sum `all`; or why not, and nothing is added
abbrev pub ReadsLine : CursorView → CursorView → List ℕ → List ℕ → List Span → List Span → ℕ → Result ℕ LineError
    → Result (FieldLine × List ℕ) LineFault → Type 0
ReadsLine old new text_old text_new spans_old spans_new all (Ok sum) read =
    Adds old new text_old text_new spans_old spans_new all sum read
ReadsLine old new text_old text_new spans_old spans_new all (Err e) read =
    FailsLine e read × (text_new ≡ text_old) × (spans_new ≡ spans_old)
