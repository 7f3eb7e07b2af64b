-- What the text calls return.
use Rattle.std.specs.Prelude.{◌≡◌, ◌≢◌, ℕ, ◌-◌, List, [], ◌∷◌, length, take, drop, Result, Ok, Err, string_bytes}
use Rattle.std.specs.Prelude.{if◌then◌else◌}
use Rattle.std.specs.Prelude.{String}
use Rattle.std.specs.Global.{Vec}
use Rattle.std.specs.Str.{bytes_eq}
use Rattle.hex.specs.Hex.{encode_lower}
use Rattle.hex.specs.declared.FromHexError.{FromHexError}
use Rattle.qpack_spec.specs.Field.{Field}
use Rattle.qpack_spec.specs.BlockReading.{written_block}
use Rattle.qpack_spec.specs.Stateless.{stateless_block, stateless_reading}
use Rattle.qpack_base.specs.declared.field.HeaderField.{HeaderField}
use Rattle.qpack_codec.specs.Stateless.{DecodesStateless, FailsStateless, fields_in}
use Rattle.qpack_codec.specs.declared.decoder.Decoded.{Decoded}
use Rattle.qpack_codec.specs.declared.error.DecoderError.{DecoderError}
use Rattle.qpack_codec.specs.declared.error.DecoderError.TheVariants as decoder
use Rattle.qpk_qif.specs.Lines.{lines_of}
use Rattle.qpk.specs.FieldText.{fields_from}
use Rattle.qpk.specs.declared.text.Fault.{Fault}
use Rattle.qpk.specs.declared.text.Fault.TheVariants.{NoTab, BadEvent, NotHexadecimal, Refused, Memory}

-- the block of fields, in lower-case hexadecimal
abbrev pub fields_text : Result (List Field) ℕ → Result (List ℕ) ℕ
fields_text (Ok fs) = Ok (encode_lower (written_block (stateless_block fs)))
fields_text (Err n) = Err n

-- the block of the fields of a text's lines, in lower-case hexadecimal; or the number of the first line without a TAB
abbrev pub encode_answer : List ℕ → Result (List ℕ) ℕ
encode_answer bytes = fields_text (fields_from 1 (lines_of bytes))

-- a fault is the one in the text, or out of memory
abbrev pub FailsText : {A : Type 0} → Fault → Result A ℕ → Type 0
FailsText (NoTab n) read = read ≡ Err n
FailsText Memory read = Unit {0}
FailsText fault read = ⊥

-- a fault is the number of the first line that is no event, or out of memory
abbrev pub FailsEvents : {A : Type 0} → Fault → Result A ℕ → Type 0
FailsEvents (BadEvent n) read = read ≡ Err n
FailsEvents Memory read = Unit {0}
FailsEvents fault read = ⊥

abbrev pub EncodesText : {Z : Type 0} → Result (String Z) Fault → Result (List ℕ) ℕ → Type 0
EncodesText (Ok text) read = read ≡ Ok (string_bytes text)
EncodesText (Err e) read = FailsText e read

-- the fields of a text's lines
abbrev pub ReadsFields : Result (Vec HeaderField) Fault → Result (List Field) ℕ → Type 0
ReadsFields (Ok fields) read = read ≡ Ok (fields_in fields.items)
ReadsFields (Err fault) read = FailsText fault read

-- a text without the line feed that may end it
abbrev pub without_feed : List ℕ → List ℕ
without_feed bytes = if bytes_eq (drop (length bytes - 1) bytes) (10 ∷ []) then take (length bytes - 1) bytes else bytes

-- a fault of the bytes that a text has in hexadecimal, or of the text itself, or out of memory
abbrev pub FailsHexadecimal : Fault → ℕ → Result (List ℕ) FromHexError → Type 0
FailsHexadecimal NotHexadecimal limit (Ok bytes) = ⊥
FailsHexadecimal NotHexadecimal limit (Err e) = Unit {0}
FailsHexadecimal (Refused e) limit (Ok bytes) = FailsStateless e (stateless_reading limit bytes) × (e ≢ decoder.Memory)
FailsHexadecimal (Refused e) limit (Err h) = ⊥
FailsHexadecimal Memory limit read = Unit {0}
FailsHexadecimal fault limit read = ⊥

-- what the bytes that a text has in hexadecimal decode to
abbrev pub DecodesText : Result Decoded Fault → ℕ → Result (List ℕ) FromHexError → Type 0
DecodesText (Ok d) limit (Ok bytes) = DecodesStateless (Ok d) (stateless_reading limit bytes)
DecodesText (Ok d) limit (Err e) = ⊥
DecodesText (Err e) limit read = FailsHexadecimal e limit read

-- the fault for an error of the decoder
abbrev pub fault_of_decoder : DecoderError → Fault
fault_of_decoder decoder.Memory = Memory
fault_of_decoder e = Refused e
