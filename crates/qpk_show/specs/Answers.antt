-- What the calls of an onlooker return.
use Rattle.std.specs.Prelude.{◌≡◌, ℕ, ◌^◌, ◌-◌, min, List, map, option_map, Option, None, Some, Result, Ok, Err}
use Rattle.std.specs.Global.{Vec}
use Rattle.qpack_spec.specs.Field.{Field}
use Rattle.qpack_spec.specs.Line.{Line}
use Rattle.qpack_spec.specs.Prefix.{PrefixFault}
use Rattle.qpack_spec.specs.Reading.{Fault}
use Rattle.qpack_spec.specs.Table.{window}
use Rattle.qpack_base.specs.Cursor.{CursorView}
use Rattle.qpack_base.specs.HeaderFields.{field_of}
use Rattle.qpack_base.specs.declared.field.HeaderField.{HeaderField}
use Rattle.qpack_base.specs.declared.parse_error.ParseError.{ParseError}
use Rattle.qpack_base.specs.declared.parse_error.ParseError.TheVariants.{Memory}
use Rattle.qpack_wire.specs.Alone.{KindFault}
use Rattle.qpack_wire.specs.Answers.{fault_of}
use Rattle.qpack_wire.specs.BlockLines.{line_of}
use Rattle.qpack_wire.specs.declared.block.line.BlockLine.{BlockLine}
use Rattle.qpack_wire.specs.Prefixes.{error_of_prefix}
use Rattle.qpack_codec.specs.Sections.{Tells}
use Rattle.qpack_codec.specs.declared.error.DecoderError.{DecoderError}
use Rattle.qpack_codec.specs.declared.error.DecoderError.TheVariants as decoder
use Rattle.qpack_codec.specs.Receiving.{refusal_of, field_to_insert}
use Rattle.qpack_base.specs.Refusals.{IsRefusedFor}
use Rattle.qpack_base.specs.declared.coding.NoMemory.{NoMemory}
use Rattle.qpack_wire.specs.declared.stream.encoder_stream.EncoderLine.{EncoderLine}
use Rattle.qpack_spec.specs.Instruction.{EncoderInstruction}
use Rattle.qpack_spec.specs.Table.{Table, put, apply_encoder_instruction}
use Rattle.qpack_spec.specs.Window.{TableRefusal}
use Rattle.qpack_wire.specs.StreamLines.{encoder_instruction_of, decoder_instruction_of}
use Rattle.qpk_show.specs.Streams.{Stream}
use Rattle.qpk_show.specs.Awaited as awaited
use Rattle.qpk_show.specs.Showing as one
use Rattle.qpk_show.specs.Showing.{Observed}
use Rattle.qpk_show.specs.declared.shown.Shown.{Shown as ReadShown}
use Rattle.qpk_show.specs.declared.shown.Shown.TheVariants as shown
use Rattle.qpk_show.specs.Sections.{LineShown, LineFault, Unreadable, PastRequired, Meaningless, Stop, Shown, Under}
use Rattle.qpk_show.specs.Sections.{or_unreadable_line, PrefixRefusal, NoPrefix, BadPrefix, CountAtZero, Reading}
use Rattle.qpk_show.specs.Sections.{Lines, Blocked, Refused}
use Rattle.qpk_show.specs.declared.section.LineShown.{LineShown as ReadLine}
use Rattle.qpk_show.specs.declared.section.LineFault.{LineFault as ReadFault}
use Rattle.qpk_show.specs.declared.section.LineFault.TheVariants as line
use Rattle.qpk_show.specs.declared.section.LineError.{LineError}
use Rattle.qpk_show.specs.declared.section.LineError.TheVariants as error
use Rattle.qpk_show.specs.declared.section.Stop.{Stop as ReadStop}
use Rattle.qpk_show.specs.declared.section.PrefixRefusal.{PrefixRefusal as ReadRefusal}
use Rattle.qpk_show.specs.declared.section.PrefixRefusal.TheVariants as prefix
use Rattle.qpk_show.specs.declared.section.Reading.{Reading as ReadSection}
use Rattle.qpk_show.specs.declared.section.Reading.TheVariants as read
use Rattle.qpk_show.specs.declared.section.Under.{Under as ReadUnder}

-- ---- a stream

-- the line that was read, or none, or why there is none; or memory was refused
abbrev pub AnswersLine : {V L : Type 0} → (V → L) → Stream → Result (Option V) ParseError
    → Result (Option L) KindFault × Stream → Type 0
AnswersLine view new (Ok None) step = step ≡ (Ok None, new)
AnswersLine view new (Ok (Some v)) step = step ≡ (Ok (Some (view v)), new)
AnswersLine view new (Err Memory) step = Unit {0}
AnswersLine view new (Err e) step = (fault : KindFault) × (fault_of e ≡ Some fault) × (step ≡ (Err fault, new))

-- ---- a section

-- what lines are read under
abbrev pub under : ReadUnder → Under
under u = record { window = window u.table.now; required = u.required; base = u.base; section = u.section }

-- the line that a value of the code represents
abbrev pub shown_of : ReadLine → LineShown
shown_of l =
    record { offset = l.offset; line = line_of l.line; never_indexed = l.never_indexed; field = field_of l.field }

-- the lines that values of the code represent
abbrev pub lines_of : List ReadLine → List LineShown
lines_of ls = map shown_of ls

-- the value of the code reports this fault; an index is reported up to the greatest number of 64 bits
abbrev pub TellsFault : ReadFault → LineFault → Type 0
TellsFault (line.Unreadable e) fault = (k : KindFault) × (fault_of e ≡ Some k) × (fault ≡ Unreadable k)
TellsFault (line.PastRequired index) fault =
    (absolute : ℕ) × (index ≡ min absolute (2 ^ 64 - 1)) × (fault ≡ PastRequired absolute)
TellsFault (line.Meaningless e) fault = (f : Fault) × Tells e f × (fault ≡ Meaningless f)

-- the error of bytes that are no line, and that of a line without a meaning; out of memory stays itself
abbrev pub unreadable_line : ParseError → LineError
unreadable_line Memory = error.Memory
unreadable_line e = error.Fault (line.Unreadable e)

abbrev pub meaningless_line : DecoderError → LineError
meaningless_line decoder.Memory = error.Memory
meaningless_line e = error.Fault (line.Meaningless e)

-- the error reports the fault that was read; or memory was refused
abbrev pub FailsLine : {A : Type 0} → LineError → Result A LineFault → Type 0
FailsLine error.Memory read = Unit {0}
FailsLine (error.Fault e) read = (fault : LineFault) × TellsFault e fault × (read ≡ Err fault)

-- the field that a line means, or why it means none
abbrev pub GivesField : Result HeaderField LineError → Result Field LineFault → Type 0
GivesField (Ok f) read = read ≡ Ok (field_of f)
GivesField (Err e) read = FailsLine e read

-- the line at the front of the bytes, and the cursor is after it; or why it can't be read
abbrev pub DecodesLine : CursorView → Result BlockLine LineError → Result (Line × List ℕ) KindFault → Type 0
DecodesLine new (Ok l) read = read ≡ Ok (line_of l, new.rest)
DecodesLine new (Err e) read = FailsLine e (or_unreadable_line read)

-- the line that is shown, and the cursor is after it; or why there is none
abbrev pub ReadsLine : CursorView → Result ReadLine LineError → Result (LineShown × List ℕ) LineFault → Type 0
ReadsLine new (Ok l) read = read ≡ Ok (shown_of l, new.rest)
ReadsLine new (Err e) read = FailsLine e read

-- the stop that ends the lines, if there is one
abbrev pub IsStop : Option ReadStop → Option Stop → Type 0
IsStop None stop = stop ≡ None
IsStop (Some s) stop =
    (fault : LineFault) × TellsFault s.fault fault × (stop ≡ Some (record { offset = s.offset; fault = fault }))

-- the lines, and the stop that ends them
abbrev pub AreLines : Vec ReadLine × Option ReadStop → Shown → Type 0
AreLines r s = (lines_of r.0.items ≡ s.0) × IsStop r.1 s.1

-- the value of the code reports why there is no section
abbrev pub TellsRefusal : ReadRefusal → PrefixRefusal → Type 0
TellsRefusal (prefix.NoPrefix e) refusal = (k : KindFault) × (fault_of e ≡ Some k) × (refusal ≡ NoPrefix k)
TellsRefusal (prefix.BadPrefix e) refusal = (f : PrefixFault) × (e ≡ error_of_prefix f) × (refusal ≡ BadPrefix f)
TellsRefusal prefix.CountAtZero refusal = refusal ≡ CountAtZero

-- the value of the code is this section
abbrev pub IsReading : ReadSection → Reading → Type 0
IsReading (read.Lines required base lines stop) r =
    (s : Option Stop) × IsStop stop s × (r ≡ Lines required base (lines_of lines.items) s)
IsReading (read.Blocked required) r = r ≡ Blocked required
IsReading (read.Refused e) r = (refusal : PrefixRefusal) × TellsRefusal e refusal × (r ≡ Refused refusal)

-- ---- an instruction

-- the field that an instruction asks for was found; or it is refused as the instruction is, or memory is
abbrev pub FindsToInsert : Table → EncoderInstruction → Result HeaderField DecoderError → Type 0
FindsToInsert t i (Ok field) =
    (field_to_insert t i ≡ Some (field_of field)) × (apply_encoder_instruction t i ≡ put t (field_of field))
FindsToInsert t i (Err decoder.Memory) = Unit {0}
FindsToInsert t i (Err e) = IsRefusedFor (apply_encoder_instruction t i) (refusal_of e)

-- the change is refused, and the table is unchanged; or memory is refused
abbrev pub FailsToApply : DecoderError → Result Table TableRefusal → Table → Table → Type 0
FailsToApply decoder.Memory read old new = Unit {0}
FailsToApply e read old new = IsRefusedFor read (refusal_of e) × (new ≡ old)

-- the field was put, and is given; or it is refused
abbrev pub InsertsField : Result (Option HeaderField) DecoderError → Field → Result Table TableRefusal → Table → Table
    → Type 0
InsertsField (Ok inserted) f read old new = (read ≡ Ok new) × (option_map field_of inserted ≡ Some f)
InsertsField (Err e) f read old new = FailsToApply e read old new

-- the instruction was applied, and the field that it inserts is given; or it is refused
abbrev pub AppliesLine : Result (Option HeaderField) DecoderError → Table → Table → EncoderInstruction
    → Result Table TableRefusal → Type 0
AppliesLine (Ok inserted) old new i read =
    (read ≡ Ok new) × (option_map field_of inserted ≡ field_to_insert old i)
AppliesLine (Err e) old new i read = FailsToApply e read old new

-- ---- an onlooker

-- the value of the code is this thing
abbrev pub IsShown : ReadShown → one.Shown → Type 0
IsShown (shown.Applied offset line inserted) x =
    x ≡ one.Applied offset (encoder_instruction_of line) (option_map field_of inserted)
IsShown (shown.NotApplied offset line e) x =
    (refusal : TableRefusal) × (refusal_of e ≡ Some refusal)
    × (x ≡ one.NotApplied offset (encoder_instruction_of line) refusal)
IsShown (shown.NoEncoderInstruction offset e) x =
    (k : KindFault) × (fault_of e ≡ Some k) × (x ≡ one.NoEncoderInstruction offset k)
IsShown (shown.Told offset line) x = x ≡ one.Told offset (decoder_instruction_of line)
IsShown (shown.NotTold offset line fault) x =
    x ≡ one.NotTold offset (decoder_instruction_of line) (awaited.refusal_of fault)
IsShown (shown.NoDecoderInstruction offset e) x =
    (k : KindFault) × (fault_of e ≡ Some k) × (x ≡ one.NoDecoderInstruction offset k)
IsShown (shown.Section stream was_blocked reading) x =
    (r : Reading) × IsReading reading r × (x ≡ one.Section stream was_blocked r)
IsShown (shown.BlockedUntil stream required) x = x ≡ one.BlockedUntil stream required
IsShown (shown.TooManyBlocked stream required) x = x ≡ one.TooManyBlocked stream required

-- what is shown next, and what is left then; or memory was refused
abbrev pub ShowsOne : Result ReadShown NoMemory → Observed → Option (one.Shown × Observed) → Type 0
ShowsOne (Ok s) new next = (x : one.Shown) × IsShown s x × (next ≡ Some (x, new))
ShowsOne (Err e) new next = Unit {0}

-- what is shown next, and what is left then; or nothing is to be shown; or memory was refused
abbrev pub ShowsNext : Result (Option ReadShown) NoMemory → Observed → Observed → Option (one.Shown × Observed) → Type 0
ShowsNext (Ok (Some s)) old new next = (x : one.Shown) × IsShown s x × (next ≡ Some (x, new))
ShowsNext (Ok None) old new next = (next ≡ None) × (new ≡ old)
ShowsNext (Err e) old new next = Unit {0}

-- ---- what is refused; out of memory is not a thing that is shown

abbrev pub no_memory : NoMemory
no_memory = record {}

abbrev pub no_encoder_instruction : ℕ → ParseError → Result (Option ReadShown) NoMemory
no_encoder_instruction offset Memory = Err no_memory
no_encoder_instruction offset e = Ok (Some (shown.NoEncoderInstruction offset e))

abbrev pub no_decoder_instruction : ℕ → ParseError → Result (Option ReadShown) NoMemory
no_decoder_instruction offset Memory = Err no_memory
no_decoder_instruction offset e = Ok (Some (shown.NoDecoderInstruction offset e))

abbrev pub not_applied : ℕ → EncoderLine → DecoderError → Result ReadShown NoMemory
not_applied offset l decoder.Memory = Err no_memory
not_applied offset l e = Ok (shown.NotApplied offset l e)
