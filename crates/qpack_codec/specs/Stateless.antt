-- What the stateless calls return, by the definitions of sections read alone.
use Rattle.std.specs.Prelude.{◌≡◌, ◌≢◌, ℕ, zero, List, [], ◌∷◌, map, Option, None, Some, Result, Ok, Err, false}
use Rattle.std.specs.Prelude.{if◌then◌else◌, nat_lt}
use Rattle.qpack_spec.specs.Bytes.{◌>>=◌}
use Rattle.qpack_spec.specs.Field.{Field, total_size}
use Rattle.qpack_spec.specs.Text.{EndsEarly, LengthOverflows, BadHuffman}
use Rattle.qpack_spec.specs.Form.{BadInteger, BadString, form_at}
use Rattle.qpack_spec.specs.Line.{line_form}
use Rattle.qpack_spec.specs.Reading.{BadForm, NotStatic}
use Rattle.qpack_spec.specs.Stateless.{StatelessFault, BadSection, NamesEntry, TooLong, saturated_size, stateless_field}
use Rattle.qpack_spec.specs.Stateless.{or_bad_bytes}
use Rattle.qpack_spec.specs.StatelessMeaning.{MeansStateless, StopsStateless}
use Rattle.qpack_base.specs.declared.field.HeaderField.{HeaderField}
use Rattle.qpack_base.specs.HeaderFields.{field_of}
use Rattle.qpack_base.specs.Integers.{integer_fault_of}
use Rattle.qpack_base.specs.Payloads.{huffman_fault_of}
use Rattle.qpack_base.specs.Cursor.{CursorView}
use Rattle.qpack_base.specs.declared.prefix_int.Error.TheVariants as integer
use Rattle.qpack_base.specs.declared.prefix_string.Error.TheVariants as string
use Rattle.qpack_wire.specs.Answers.{ReadAs}
use Rattle.qpack_codec.specs.declared.decoder.Decoded.{Decoded}
use Rattle.qpack_codec.specs.declared.error.DecoderError.{DecoderError}
use Rattle.qpack_codec.specs.declared.error.DecoderError.TheVariants.{MissingRefs, HeaderTooLong, InvalidInteger}
use Rattle.qpack_codec.specs.declared.error.DecoderError.TheVariants.{InvalidString, InvalidStaticIndex}
use Rattle.qpack_codec.specs.declared.error.DecoderError.TheVariants.{Memory}

-- the fields that were decoded
abbrev pub fields_in : List HeaderField → List Field
fields_in fs = map field_of fs

-- the fault that an error reports, if reading a section alone can return it
abbrev pub fault_of : DecoderError → Option StatelessFault
fault_of (MissingRefs zero) = Some NamesEntry
fault_of (HeaderTooLong sum) = Some (TooLong sum)
fault_of (InvalidInteger e) = Some (BadSection (BadForm (BadInteger (integer_fault_of e))))
fault_of (InvalidString string.UnexpectedEnd) = Some (BadSection (BadForm (BadString EndsEarly)))
fault_of (InvalidString (string.Integer integer.Overflow)) = Some (BadSection (BadForm (BadString LengthOverflows)))
fault_of (InvalidString (string.HuffmanDecoding e)) =
    Some (BadSection (BadForm (BadString (BadHuffman (huffman_fault_of e)))))
fault_of (InvalidStaticIndex index) = Some (BadSection (NotStatic index))
fault_of e = None

-- the error reports the fault that was read, or out of memory
abbrev pub FailsStateless : {A : Type 0} → DecoderError → Result A StatelessFault → Type 0
FailsStateless Memory read = Unit {0}
FailsStateless e read = ReadAs read (fault_of e)

-- the fields that were read and their size, nothing being required; or why there are none
abbrev pub DecodesStateless : Result Decoded DecoderError → Result (List Field) StatelessFault → Type 0
DecodesStateless (Ok d) read =
    (read ≡ Ok (fields_in d.fields.items)) × (d.mem_size ≡ saturated_size (total_size (fields_in d.fields.items)))
    × (d.dyn_ref ≡ false)
DecodesStateless (Err e) read = FailsStateless e read

-- nothing is left, of a list as long as before
abbrev pub IsFinished : CursorView → CursorView → Type 0
IsFinished old new = (new.rest ≡ []) × (new.total ≡ old.total)

-- ---- by cases

-- the error reports this fault, or out of memory
abbrev pub Tells : DecoderError → StatelessFault → Type 0
Tells e fault = FailsStateless {A = List Field} e (Err fault)

-- the result is these fields, or memory was refused
abbrev pub GivesFields : Result Decoded DecoderError → List Field → Type 0
GivesFields (Ok d) fs = fields_in d.fields.items ≡ fs
GivesFields (Err e) fs = e ≡ Memory

-- the result is this fault, or memory was refused
abbrev pub GivesFault : Result Decoded DecoderError → StatelessFault → Type 0
GivesFault (Ok d) fault = ⊥
GivesFault (Err e) fault = Tells e fault

-- the fields of the result are what the bytes mean, with their size, and nothing is required
abbrev pub FindsFields : ℕ → List ℕ → Decoded → Type 0
FindsFields limit bytes d =
    MeansStateless limit bytes (fields_in d.fields.items)
    × (d.mem_size ≡ saturated_size (total_size (fields_in d.fields.items)))
    × (d.dyn_ref ≡ false)

-- the error reports why the bytes mean nothing, or memory was refused
abbrev pub FindsFault : ℕ → List ℕ → DecoderError → Type 0
FindsFault limit bytes e = (e ≢ Memory) → (fault : StatelessFault) × Tells e fault × StopsStateless limit bytes fault

-- ---- a line alone

-- the field of the line at the front, and the bytes after it; a post-base line is known by its first byte
abbrev pub stateless_field_at : ℕ → List ℕ → Result (Field × List ℕ) StatelessFault
stateless_field_at b bytes =
    if nat_lt b 32 then Err NamesEntry
    else (or_bad_bytes (form_at line_form (b ∷ bytes)) >>= λ r. stateless_field r.0 >>= λ f. Ok (f, r.1))

-- a line that was read, and where the cursor is
abbrev pub ReadsStatelessField : CursorView → CursorView → Result HeaderField DecoderError
    → Result (Field × List ℕ) StatelessFault → Type 0
ReadsStatelessField old new (Ok f) read = (read ≡ Ok (field_of f, new.rest)) × (new.total ≡ old.total)
ReadsStatelessField old new (Err e) read = FailsStateless e read

-- the field that a line means
abbrev pub GivesStatelessField : Result HeaderField DecoderError → Result Field StatelessFault → Type 0
GivesStatelessField (Ok f) read = read ≡ Ok (field_of f)
GivesStatelessField (Err e) read = FailsStateless e read
