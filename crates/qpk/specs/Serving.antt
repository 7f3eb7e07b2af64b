-- What the program does with its words and its input.
use Rattle.std.specs.Prelude.{◌≡◌, ℕ, Bool, false, ◌⊎◌, List, [], ◌∷◌, ◌++◌, Ok, Result, Err, Option, None, Some, map}
use Rattle.std.specs.Prelude.{codes, IfSome}
use Rattle.std.specs.Prelude.{string_bytes, String}
use Rattle.std.specs.Fmt.{decimal}
use Rattle.hex.specs.Hex.{decode_of}
use Rattle.qpack_spec.specs.Field.{Field, total_size}
use Rattle.qpack_spec.specs.Stateless.{saturated_size, stateless_reading}
use Rattle.qpk.specs.FieldText.{text_of_fields}
use Rattle.qpk.specs.Answers.{encode_answer, without_feed, FailsText, FailsHexadecimal}
use Rattle.qpk.specs.Commands.{WordsFault, TellsWords, command_of}
use Rattle.qpk.specs.declared.command.Command.{Command}
use Rattle.qpk.specs.declared.command.Command.TheVariants.{Help, Encode, Decode, DecodeHex, Inspect, Run, Show}
use Rattle.qpk.specs.declared.command.Command.TheVariants.{DecodeJson, EncodeLists, DecodeRecords, Version, Check}
use Rattle.qpk.specs.declared.command.Command.TheVariants.{ExplainWords, ExplainInput}
use Rattle.qpk.specs.Json.{section_json}
use Rattle.qpk.specs.Notes.{IsNoteOf}
use Rattle.qpk.specs.Refusals.{AppendsPart, AppendsSome, AppendsPartOfSome}
use Rattle.qpk.specs.Usage.{help_text, version_line}
use Rattle.qpk.specs.declared.refusal.Refusal.{Refusal}
use Rattle.qpk.specs.declared.refusal.Refusal.TheVariants as refusal
use Rattle.qpk.specs.declared.text.Fault.{Fault}
use Rattle.qpk.specs.declared.text.Fault.TheVariants.{Refused, Memory}
use Rattle.std.specs.Io.KnownBytes.{Appends}
use Rattle.qpack_codec.specs.declared.error.DecoderError.{DecoderError}
use Rattle.qpk.specs.Inspecting.{PrintsInspection, hexadecimal_fields}
use Rattle.qpk.specs.Runs.{PrintsRun, HasRunFault}
use Rattle.qpk.specs.Inspections.{FailsInspection}
use Rattle.qpk.specs.declared.serve.Output.{Output}
use Rattle.qpk.specs.declared.serve.Reply.{Reply}
use Rattle.qpk.specs.declared.serve.Reply.TheVariants.{Whole, Shown}

-- the words ask for the command
abbrev pub AsksFor : {Z : Type 0} → List (String Z) → Command → Type 0
AsksFor words command = command_of (map string_bytes words) ≡ Ok command

-- the words give no command
abbrev pub AsksForNothing : {Z : Type 0} → List (String Z) → Type 0
AsksForNothing words = (fault : WordsFault) × (command_of (map string_bytes words) ≡ Err fault)

-- fields as they are printed: a line each, and the line of their size
abbrev pub printed_fields : List Field → List ℕ
printed_fields fs = text_of_fields fs ++ codes "size " ++ decimal (saturated_size (total_size fs)) ++ 10 ∷ []

-- fields as they are printed in hexadecimal: a line each, and the line of their size
abbrev pub hexadecimal_answer : List Field → List ℕ
hexadecimal_answer fs =
    hexadecimal_fields fs ++ codes "size " ++ decimal (saturated_size (total_size fs)) ++ 10 ∷ []

-- a command that reads no input: its output is known, or its words have the bytes
abbrev pub ReadsNone : Command → Type 0
ReadsNone (Help topic) = Unit {0}
ReadsNone Version = Unit {0}
ReadsNone (ExplainWords options) = Unit {0}
ReadsNone command = ⊥

-- the words ask for a command that reads no input
abbrev pub AsksForNone : {Z : Type 0} → List (String Z) → Type 0
AsksForNone words = (command : Command) × AsksFor words command × ReadsNone command

-- the input that a command processes, if it is known: help and the version process none
abbrev pub input_of : Command → Option (List ℕ) → Option (List ℕ)
input_of (Help topic) input = Some []
input_of Version input = Some []
input_of (ExplainWords options) input = None
input_of command input = input

-- an input can't be read, or there is no memory for it; help and the version read none
abbrev pub FailsToRead : Command → Refusal → Type 0
FailsToRead (Help topic) r = ⊥
FailsToRead Version r = ⊥
FailsToRead command r = (r ≡ refusal.Input) ⊎ (r ≡ refusal.Fault Memory)

-- the output for a command's input; what is shown, judged and explained has the clauses of `qpk_show` and of the crates
-- below it, and its text none
abbrev pub Answers : Command → List ℕ → List ℕ → Type 0
Answers (Help topic) input out = out ≡ help_text topic
Answers Version input out = out ≡ version_line
Answers Encode input out = (text : List ℕ) × (encode_answer input ≡ Ok text) × (out ≡ text ++ 10 ∷ [])
Answers (Decode limit) input out =
    (block : List ℕ) × (fs : List Field) × (decode_of (without_feed input) ≡ Ok block)
    × (stateless_reading limit block ≡ Ok fs) × (out ≡ printed_fields fs)
Answers (DecodeHex limit) input out =
    (block : List ℕ) × (fs : List Field) × (decode_of (without_feed input) ≡ Ok block)
    × (stateless_reading limit block ≡ Ok fs) × (out ≡ hexadecimal_answer fs)
Answers (DecodeJson limit) input out =
    (block : List ℕ) × (fs : List Field) × (decode_of (without_feed input) ≡ Ok block)
    × (stateless_reading limit block ≡ Ok fs) × (out ≡ section_json fs)
Answers (Inspect capacity) input out = PrintsInspection capacity input out None
Answers (Run capacity limit) input out = PrintsRun capacity limit input out
Answers (Show options) input out = Unit {0}
Answers (Check options) input out = Unit {0}
Answers (ExplainWords options) input out = Unit {0}
Answers (ExplainInput options) input out = Unit {0}
Answers (EncodeLists settings) input out = Unit {0}
Answers (DecodeRecords settings) input out = Unit {0}

-- the output of a command that ends at a refusal in its input
abbrev pub Stops : Command → List ℕ → List ℕ → DecoderError → Type 0
Stops (Inspect capacity) input out e = PrintsInspection capacity input out (Some e)
Stops command input out e = ⊥

-- only the output of an inspection ends so
abbrev pub IsInspection : Command → Type 0
IsInspection (Inspect capacity) = Unit {0}
IsInspection command = ⊥

-- the output, and whether it ends at a refusal
abbrev pub Prints : Command → List ℕ → List ℕ → Option DecoderError → Type 0
Prints command input out None = Answers command input out
Prints command input out (Some e) = Stops command input out e

-- the fault in a command's input, or out of memory
abbrev pub HasFault : Command → List ℕ → Fault → Type 0
HasFault (Help topic) input fault = fault ≡ Memory
HasFault Version input fault = fault ≡ Memory
HasFault Encode input fault = FailsText fault (encode_answer input)
HasFault (Decode limit) input fault = FailsHexadecimal fault limit (decode_of (without_feed input))
HasFault (DecodeHex limit) input fault = FailsHexadecimal fault limit (decode_of (without_feed input))
HasFault (DecodeJson limit) input fault = FailsHexadecimal fault limit (decode_of (without_feed input))
HasFault (Inspect capacity) input fault = FailsInspection capacity input fault
HasFault (Run capacity limit) input fault = HasRunFault capacity limit input fault
HasFault (Show options) input fault = Unit {0}
HasFault (Check options) input fault = Unit {0}
HasFault (ExplainWords options) input fault = Unit {0}
HasFault (ExplainInput options) input fault = Unit {0}
HasFault (EncodeLists settings) input fault = Unit {0}
HasFault (DecodeRecords settings) input fault = Unit {0}

-- only what is shown, judged or explained has something that is refused or found, which the status reports
abbrev pub MayFind : Command → Bool → Type 0
MayFind (Show options) found = Unit {0}
MayFind (Check options) found = Unit {0}
MayFind (ExplainWords options) found = Unit {0}
MayFind (ExplainInput options) found = Unit {0}
MayFind command found = found ≡ false

-- the status if something was refused or found
abbrev pub TellsFound : Command → ℕ → Type 0
TellsFound (Show options) status = status ≡ 2
TellsFound (Check options) status = status ≡ 1
TellsFound (ExplainWords options) status = status ≡ 2
TellsFound (ExplainInput options) status = status ≡ 2
TellsFound command status = ⊥

-- the status of an output
abbrev pub HasStatus : Command → ℕ → Type 0
HasStatus command status = (status ≡ 0) ⊎ TellsFound command status

-- the command shows a connection: its output is written piece by piece
abbrev pub IsShow : Command → Type 0
IsShow (Show options) = Unit {0}
IsShow command = ⊥

-- the output that a command's input asks for, or the fault in it
abbrev pub AnswersInput : Command → List ℕ → Result Reply Fault → Type 0
AnswersInput command input (Ok (Whole a)) = Prints command input a.bytes.items a.refused
AnswersInput command input (Ok (Shown showing)) = IsShow command
AnswersInput command input (Err fault) = HasFault command input fault

-- only what is shown, judged or explained has something that is refused or found
abbrev pub MayHaveFound : Command → Reply → Type 0
MayHaveFound command (Whole a) = MayFind command a.has_found
MayHaveFound command (Shown showing) = IsShow command

-- the command is none of the usage's four
abbrev pub IsBeyond : Command → Type 0
IsBeyond Encode = ⊥
IsBeyond (Decode limit) = ⊥
IsBeyond (Inspect capacity) = ⊥
IsBeyond (Run capacity limit) = ⊥
IsBeyond command = Unit {0}

-- why a command's output could not be written; only beyond the usage's four it may be that nobody reads it any more
abbrev pub IsUnwritten : Command → Refusal → Type 0
IsUnwritten command r = (r ≡ refusal.Output) ⊎ ((r ≡ refusal.Unread) × IsBeyond command)

-- a whole output was written, that no refusal ends, and this is whether something is refused or found in it
abbrev pub WritesWhole : Output → Option (List ℕ) → Option (List ℕ) → Bool → Type 0
WritesWhole whole old new found =
    (found ≡ whole.has_found) × (whole.refused ≡ None) × Appends old new whole.bytes.items

-- an answer was written, and this is whether something is refused or found in it
abbrev pub WritesReply : Reply → Option (List ℕ) → Option (List ℕ) → Bool → Type 0
WritesReply (Whole a) old new found = WritesWhole a old new found
WritesReply (Shown showing) old new found = AppendsSome old new

-- why writing a whole output ended: a part of it was written, or all, and then the refusal in it is reported
abbrev pub StopsWhole : Command → Output → Option (List ℕ) → Option (List ℕ) → Refusal → Type 0
StopsWhole command whole old new r =
    (IsUnwritten command r × AppendsPart old new whole.bytes.items)
    ⊎ ((e : DecoderError) × (r ≡ refusal.Fault (Refused e)) × (whole.refused ≡ Some e) × Appends old new whole.bytes.items)

-- why showing ended early: a part of what is shown was written, or a front of it, and then memory was refused
abbrev pub StopsShowing : Option (List ℕ) → Option (List ℕ) → Refusal → Type 0
StopsShowing old new r =
    (((r ≡ refusal.Output) ⊎ (r ≡ refusal.Unread)) × AppendsPartOfSome old new)
    ⊎ ((r ≡ refusal.Fault Memory) × AppendsSome old new)

-- a fault is reported as this refusal, or as out of memory if there is none left to report it
abbrev pub TellsRefusal : Fault → DecoderError → Type 0
TellsRefusal fault e = (fault ≡ Refused e) ⊎ (fault ≡ Memory)

-- the remark on the input of a command, if that input is known: there is one only on header lists in QIF
abbrev pub IsNote : Command → Option (List ℕ) → Option (List ℕ) → Type 0
IsNote (EncodeLists settings) input note = IfSome input (λ bytes. IsNoteOf (EncodeLists settings) bytes note)
IsNote command input note = note ≡ None

-- a command is done: its output was written, and nothing else; and this is the remark on its input
abbrev pub IsAnsweredBy : Command → Option (List ℕ) → Option (List ℕ) → Option (List ℕ) → Option (List ℕ) → Type 0
IsAnsweredBy command input old new note =
    IsNote command input note
    × IfSome (input_of command input) (λ bytes. (out : List ℕ) × Answers command bytes out × Appends old new out)

-- the command that the words give is done
abbrev pub IsAnswered : {Z : Type 0} → List (String Z) → Option (List ℕ) → Option (List ℕ) → Option (List ℕ)
    → Option (List ℕ) → Type 0
IsAnswered words input old new note =
    (command : Command) × AsksFor words command × IsAnsweredBy command input old new note

-- the command that the words give is done, with this status
abbrev pub EndsWell : {Z : Type 0} → List (String Z) → Option (List ℕ) → Option (List ℕ) → Option (List ℕ)
    → Option (List ℕ) → ℕ → Type 0
EndsWell words input old new note status =
    (command : Command) × AsksFor words command × IsAnsweredBy command input old new note × HasStatus command status

-- the remark was written, as `says` has it of a line; without one, nothing was
abbrev pub SaysNote : (List ℕ → Type 0) → Option (List ℕ) → Option (List ℕ) → Option (List ℕ) → Type 0
SaysNote says old new None = new ≡ old
SaysNote says old new (Some line) = says line

-- the command that the words give is done, and the status says that something was refused or found
abbrev pub IsFound : {Z : Type 0} → List (String Z) → Option (List ℕ) → Option (List ℕ) → Option (List ℕ)
    → (List ℕ → Type 0) → Option (List ℕ) → Option (List ℕ) → ℕ → Type 0
IsFound words input old new says said saying status =
    (note : Option (List ℕ)) × (command : Command) × AsksFor words command × IsAnsweredBy command input old new note
    × TellsFound command status × SaysNote says said saying note

-- it ended for its words, which the refusal reports, and nothing was written
abbrev pub EndsForWords : {Z : Type 0} → List (String Z) → Option (List ℕ) → Option (List ℕ) → Refusal → Type 0
EndsForWords words old new r =
    (fault : WordsFault) × (command_of (map string_bytes words) ≡ Err fault) × TellsWords r fault × (new ≡ old)

-- why writing an answer ended early
abbrev pub StopsReply : Command → Reply → Option (List ℕ) → Option (List ℕ) → Refusal → Type 0
StopsReply command (Whole a) old new r = StopsWhole command a old new r
StopsReply command (Shown showing) old new r = StopsShowing old new r

-- a command's output could not be written, except a part of it
abbrev pub WritesPart : Command → Option (List ℕ) → Option (List ℕ) → Option (List ℕ) → Type 0
WritesPart command input old new =
    IfSome (input_of command input) (λ bytes. (out : List ℕ) × (refused : Option DecoderError)
    × Prints command bytes out refused × AppendsPart old new out)

-- why a command ended: the input could not be read, or it has a fault, and then nothing was written; or it was refused
-- further on, and then what comes before that was written; or what it asks for could not be written, except a part of
-- it; or memory was refused while a connection was shown. The input is what the reader gives, if that is known, and the
-- output what the writer had before and after
abbrev pub EndsForCommand : Command → Option (List ℕ) → Option (List ℕ) → Option (List ℕ) → Refusal → Type 0
EndsForCommand command input old new refusal.Usage = ⊥
EndsForCommand command input old new (refusal.Missing topic wanted) = ⊥
EndsForCommand command input old new (refusal.BadWord topic wanted word) = ⊥
EndsForCommand command input old new refusal.Input = FailsToRead command refusal.Input × (new ≡ old)
EndsForCommand command input old new refusal.Output = WritesPart command input old new
EndsForCommand command input old new refusal.Unread = IsBeyond command × WritesPart command input old new
EndsForCommand command input old new (refusal.Fault fault) =
    (IfSome (input_of command input) (λ bytes. HasFault command bytes fault) × (new ≡ old))
    ⊎ ((IsInspection command × (e : DecoderError) × TellsRefusal fault e × (out : List ℕ) × Appends old new out
    × IfSome input (λ bytes. Stops command bytes out e))
    ⊎ (IsShow command × (fault ≡ Memory) × AppendsSome old new))

-- why a run ended: other words, or the end of the command that they ask for
abbrev pub EndsFor : {Z : Type 0} → List (String Z) → Option (List ℕ) → Option (List ℕ) → Option (List ℕ) → Refusal
    → Type 0
EndsFor words input old new r =
    EndsForWords words old new r
    ⊎ ((command : Command) × AsksFor words command × EndsForCommand command input old new r)
