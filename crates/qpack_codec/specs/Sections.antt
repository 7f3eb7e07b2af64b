-- What decoding a field section under a table returns (RFC 9204, sections 2.2.1 and 4.5).
use Rattle.std.specs.Prelude.{◌≡◌, ℕ, List, Option, None, Some, Result, Ok, Err}
use Rattle.qpack_spec.specs.Bytes.{◌>>=◌}
use Rattle.qpack_spec.specs.Field.{Field, total_size}
use Rattle.qpack_spec.specs.Form.{FormFault, BadInteger, BadString, form_at}
use Rattle.qpack_spec.specs.Line.{line_form}
use Rattle.qpack_spec.specs.Prefix.{OutOfRange, BelowZero}
use Rattle.qpack_spec.specs.Reading.{Fault, BadForm, BadPrefix, BelowWindow, AboveWindow, BehindBase, NotStatic}
use Rattle.qpack_spec.specs.Reading.{line_field, Reading, Fields, Missing, Faulty}
use Rattle.qpack_spec.specs.BlockReading.{or_bad_form}
use Rattle.qpack_spec.specs.Stateless.{saturated_size}
use Rattle.qpack_spec.specs.Text.{EndsEarly, LengthOverflows, BadHuffman}
use Rattle.qpack_spec.specs.Window.{Window}
use Rattle.qpack_base.specs.Cursor.{CursorView}
use Rattle.qpack_base.specs.HeaderFields.{field_of}
use Rattle.qpack_base.specs.Integers.{integer_fault_of}
use Rattle.qpack_base.specs.Payloads.{huffman_fault_of}
use Rattle.qpack_base.specs.declared.field.HeaderField.{HeaderField}
use Rattle.qpack_base.specs.declared.prefix_int.Error.TheVariants as integer
use Rattle.qpack_base.specs.declared.prefix_string.Error.TheVariants as string
use Rattle.qpack_table.specs.declared.dynamic.Error.TheVariants.{BadRelativeIndex, BadPostbaseIndex, BadIndex}
use Rattle.qpack_codec.specs.Stateless.{fields_in}
use Rattle.qpack_codec.specs.declared.decoder.Decoded.{Decoded}
use Rattle.qpack_codec.specs.declared.error.DecoderError.{DecoderError}
use Rattle.qpack_codec.specs.declared.error.DecoderError.TheVariants.{MissingRefs, BadBaseIndex, DynamicTable}
use Rattle.qpack_codec.specs.declared.error.DecoderError.TheVariants.{InvalidInteger, InvalidString, InvalidStaticIndex}
use Rattle.qpack_codec.specs.declared.error.DecoderError.TheVariants.{Memory}
use Rattle.qpack_codec.specs.declared.decoder.sections.Fields.{Fields as ReadFields}

-- the fault of bytes that an error reports
abbrev pub form_fault_of : DecoderError → Option FormFault
form_fault_of (InvalidInteger e) = Some (BadInteger (integer_fault_of e))
form_fault_of (InvalidString string.UnexpectedEnd) = Some (BadString EndsEarly)
form_fault_of (InvalidString (string.Integer integer.Overflow)) = Some (BadString LengthOverflows)
form_fault_of (InvalidString (string.HuffmanDecoding e)) = Some (BadString (BadHuffman (huffman_fault_of e)))
form_fault_of e = None

-- the error reports this fault: one of the bytes; a prefix out of range is reported as an integer that is too large, a
-- base below 0 as itself; an index, as the table reports it
abbrev pub Tells : DecoderError → Fault → Type 0
Tells e (BadForm fault) = form_fault_of e ≡ Some fault
Tells e (BadPrefix OutOfRange) = e ≡ InvalidInteger integer.Overflow
Tells e (BadPrefix (BelowZero base)) = e ≡ BadBaseIndex base
Tells e (BelowWindow relative) = e ≡ DynamicTable (BadRelativeIndex relative)
Tells e (AboveWindow position) = e ≡ DynamicTable (BadIndex position)
Tells e (BehindBase post_base) = e ≡ DynamicTable (BadPostbaseIndex post_base)
Tells e (NotStatic index) = e ≡ InvalidStaticIndex index

-- the error reports why there are no fields: entries are missing, or a fault
abbrev pub TellsReading : DecoderError → Reading → Type 0
TellsReading e (Fields fs is_dynamic) = ⊥
TellsReading e (Missing required) = e ≡ MissingRefs required
TellsReading e (Faulty fault) = Tells e fault

-- the result is what the section means: its fields with the sum of their sizes, and whether any entry is required; or
-- why there are none; or memory was refused
abbrev pub DecodesSection : Result Decoded DecoderError → Reading → Type 0
DecodesSection (Ok d) read =
    (read ≡ Fields (fields_in d.fields.items) d.dyn_ref)
    × (d.mem_size ≡ saturated_size (total_size (fields_in d.fields.items)))
DecodesSection (Err Memory) read = Unit {0}
DecodesSection (Err e) read = TellsReading e read

-- ---- the parts of a section

-- the error reports the fault that was read
abbrev pub TellsFault : {A : Type 0} → DecoderError → Result A Fault → Type 0
TellsFault e (Ok x) = ⊥
TellsFault e (Err fault) = Tells e fault

-- the error reports the fault that was read, or out of memory
abbrev pub FailsWith : {A : Type 0} → DecoderError → Result A Fault → Type 0
FailsWith Memory read = Unit {0}
FailsWith e read = TellsFault e read

-- the field that a line means
abbrev pub GivesLineField : Result HeaderField DecoderError → Result Field Fault → Type 0
GivesLineField (Ok f) read = read ≡ Ok (field_of f)
GivesLineField (Err e) read = FailsWith e read

-- the field of the line at the front of the bytes, and the bytes after it
abbrev pub line_field_at : Window → ℕ → List ℕ → Result (Field × List ℕ) Fault
line_field_at w base bytes = or_bad_form (form_at line_form bytes) >>= λ r. line_field w base r.0 >>= λ f. Ok (f, r.1)

-- a line that was read, and where the cursor is
abbrev pub ReadsField : CursorView → CursorView → Result HeaderField DecoderError → Result (Field × List ℕ) Fault
    → Type 0
ReadsField old new (Ok f) read = (read ≡ Ok (field_of f, new.rest)) × (new.total ≡ old.total)
ReadsField old new (Err e) read = FailsWith e read

-- the fields of all lines, and the sum of their sizes
abbrev pub ReadsFields : Result ReadFields DecoderError → Result (List Field) Fault → Type 0
ReadsFields (Ok d) read =
    (read ≡ Ok (fields_in d.fields.items)) × (d.mem_size ≡ saturated_size (total_size (fields_in d.fields.items)))
ReadsFields (Err e) read = FailsWith e read
