-- What reading a section strictly returns (RFC 9204, sections 2.2 and 4.5).
use Rattle.std.specs.Prelude.{◌≡◌, ℕ, ⊤, List, [], Option, None, Some, Result, Ok, Err}
use Rattle.qpack_spec.specs.Field.{FieldLine}
use Rattle.qpack_spec.specs.StrictReading.{SectionFault, StrictReading, InPrefix, InLine, Read, Blocked}
use Rattle.qpack_spec.specs.StrictReading.{Refused}
use Rattle.qpack_spec.specs.StrictReading as strict
use Rattle.qpack_base.specs.declared.parse_error.ParseError.{ParseError}
use Rattle.qpack_codec.specs.Errors.{decoder_error_of_parse}
use Rattle.qpack_codec.specs.Sections.{Tells}
use Rattle.qpack_codec.specs.declared.error.DecoderError.{DecoderError}
use Rattle.qpack_codec.specs.declared.error.DecoderError.TheVariants as decoder
use Rattle.qpack_decoding.specs.declared.section.LineError.{LineError}
use Rattle.qpack_decoding.specs.declared.section.LineError.TheVariants as line
use Rattle.qpack_decoding.specs.declared.section.Reading.{Reading}
use Rattle.qpack_decoding.specs.declared.section.Reading.TheVariants as reading
use Rattle.qpack_decoding.specs.declared.section.SectionError.{SectionError}
use Rattle.qpack_decoding.specs.declared.section.SectionError.TheVariants.{TooLong, Prefix, CountAtZero, Line, Memory}
use Rattle.qpack_decoding.specs.Lines.{TellsLine}

-- an error of the decoder, as a prefix's; out of memory stays itself
abbrev pub error_in_prefix : DecoderError → SectionError
error_in_prefix decoder.Memory = Memory
error_in_prefix e = Prefix e

abbrev pub section_error_of : ParseError → SectionError
section_error_of e = error_in_prefix (decoder_error_of_parse e)

-- an error of the line of this number, at this offset
abbrev pub error_at : ℕ → ℕ → LineError → SectionError
error_at number offset line.Memory = Memory
error_at number offset e = Line number offset e

-- QPACK_DECOMPRESSION_FAILED (section 6)
abbrev pub decompression_failed : ℕ
decompression_failed = 0x200

-- the code of an error that ends the connection; the limit, which is the reader's own, and out of memory have none
abbrev pub line_code_of : LineError → Option ℕ
line_code_of (line.Meaningless e) = Some decompression_failed
line_code_of (line.PastRequired index) = Some decompression_failed
line_code_of (line.TooLarge sum) = None
line_code_of line.Memory = None

-- the code of a section's error that ends the connection
abbrev pub code_of : SectionError → Option ℕ
code_of TooLong = None
code_of (Prefix e) = Some decompression_failed
code_of CountAtZero = Some decompression_failed
code_of (Line number offset e) = line_code_of e
code_of Memory = None

-- the error reports this fault
abbrev pub TellsSection : SectionError → SectionFault → Type 0
TellsSection TooLong fault = fault ≡ strict.TooLong
TellsSection (Prefix e) (InPrefix fault) = Tells e fault
TellsSection CountAtZero fault = fault ≡ strict.CountAtZero
TellsSection (Line number offset e) (InLine n o fault) = (number ≡ n) × (offset ≡ o) × TellsLine e fault
TellsSection e fault = ⊥

-- the error reports the fault that was read
abbrev pub TellsFault : {A : Type 0} → SectionError → Result A SectionFault → Type 0
TellsFault e (Ok x) = ⊥
TellsFault e (Err fault) = TellsSection e fault

-- the error reports the fault that was read, or out of memory
abbrev pub FailsSection : {A : Type 0} → SectionError → Result A SectionFault → Type 0
FailsSection Memory read = Unit {0}
FailsSection e read = TellsFault e read

-- the fields of all lines; or why not
abbrev pub ReadsLines : Result ⊤ SectionError → List FieldLine → Result (List FieldLine) SectionFault → Type 0
ReadsLines (Ok done) fields read = read ≡ Ok fields
ReadsLines (Err e) fields read = FailsSection e read

-- the error reports why a section is rejected
abbrev pub TellsReading : SectionError → StrictReading → Type 0
TellsReading e (Refused fault) = TellsSection e fault
TellsReading e read = ⊥

-- the error reports why a section is rejected, or out of memory
abbrev pub FailsReading : SectionError → StrictReading → Type 0
FailsReading Memory read = Unit {0}
FailsReading e read = TellsReading e read

-- the fields of a section, and what it requires; or that it is blocked; or why it is refused
abbrev pub ReadsInto : Result Reading SectionError → List FieldLine → StrictReading → Type 0
ReadsInto (Ok (reading.Fields required)) fields read = read ≡ Read fields required
ReadsInto (Ok (reading.Blocked required)) fields read = (read ≡ Blocked required) × (fields ≡ [])
ReadsInto (Err e) fields read = FailsReading e read

-- a section was read so, with no field unless fields are returned
abbrev pub ReadsSection : Result Reading SectionError → List FieldLine → StrictReading → Type 0
ReadsSection (Err e) fields read = FailsReading e read × (fields ≡ [])
ReadsSection r fields read = ReadsInto r fields read
