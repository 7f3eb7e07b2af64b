-- What the calls of an inspection return.
use Rattle.std.specs.Prelude.{◌≡◌, ◌≢◌, ℕ, ◌^◌, ◌<◌, ◌≤◌, ⊤, Bool, true, false, List, [], ◌++◌, length, drop, map}
use Rattle.std.specs.Prelude.{Option, None, Some, Result, Ok, Err, string_bytes, IsOk}
use Rattle.std.specs.Global.{Vec}
use Rattle.std.specs.List.{flat_map}
use Rattle.qpack_spec.specs.Field.{Field}
use Rattle.qpack_spec.specs.Form.{Truncates}
use Rattle.qpack_spec.specs.Instruction.{EncoderInstruction, encoder_instruction_form, SpellsEncoderInstruction}
use Rattle.qpack_spec.specs.Prefix.{read_prefix}
use Rattle.qpack_spec.specs.Reading.{Block}
use Rattle.qpack_spec.specs.Table.{Table, apply_encoder_instruction, empty_table, insert_count}
use Rattle.qpack_spec.specs.Window.{maximum_capacity}
use Rattle.qpack_wire.specs.BlockLines.{line_of}
use Rattle.qpack_wire.specs.Prefixes.{prefix_of}
use Rattle.qpack_wire.specs.declared.block.line.BlockLine.{BlockLine}
use Rattle.qpack_wire.specs.declared.block.prefix.HeaderPrefix.{HeaderPrefix}
use Rattle.qpack_wire.specs.StreamLines.{encoder_instruction_of}
use Rattle.qpack_wire.specs.declared.stream.encoder_stream.EncoderLine.{EncoderLine}
use Rattle.qpack_codec.specs.Receiving.{Stops, TakesOne}
use Rattle.qpack_codec.specs.declared.error.DecoderError.{DecoderError}
use Rattle.qpack_codec.specs.declared.error.DecoderError.TheVariants as decoder
use Rattle.qpk.specs.Answers.{FailsEvents}
use Rattle.qpk.specs.Inspecting.{Event, Piece, Section, events_of, instruction_text, InspectsAll, InspectsUntil}
use Rattle.qpk.specs.Inspecting.{PrintsBlock}
use Rattle.qpk.specs.Inspecting.{PrintsLines, prefix_text, line_text, fields_text}
use Rattle.qpk.specs.Inspecting.{Inspects, PrintsInspection}
use Rattle.qpk.specs.declared.inspect.events.Event.{Event as ReadEvent}
use Rattle.qpk.specs.declared.inspect.events.Event.TheVariants as read_event
use Rattle.qpk.specs.declared.inspect.Inspection.{Inspection}
use Rattle.qpk.specs.declared.text.Fault.{Fault}
use Rattle.qpk.specs.declared.text.Fault.TheVariants.{BadEvent, Refused, Capacity, Memory}

-- ---- the input

-- the event that a value of the code represents
abbrev pub event_of : ReadEvent → Event
event_of (read_event.Piece bytes) = Piece bytes.items
event_of (read_event.Section block) = Section block.items

abbrev pub events_in : List ReadEvent → List Event
events_in events = map event_of events

-- the events of the input's lines
abbrev pub ReadsEvents : Result (Vec ReadEvent) Fault → Result (List Event) ℕ → Type 0
ReadsEvents (Ok events) read = read ≡ Ok (events_in events.items)
ReadsEvents (Err fault) read = FailsEvents fault read

-- ---- the encoder stream

-- the next instruction, of which the bytes in front are a spelling, or none of truncated bytes, or why it can't be read
abbrev pub ReadsNext : List ℕ → List ℕ → Result (Option EncoderLine) DecoderError → Type 0
ReadsNext bytes left (Ok (Some line)) =
    (encoding : List ℕ) × (bytes ≡ encoding ++ left) × SpellsEncoderInstruction encoding (encoder_instruction_of line)
ReadsNext bytes left (Ok None) = Truncates encoder_instruction_form bytes × (left ≡ bytes)
ReadsNext bytes left (Err e) = ((t : Table) → Stops t bytes bytes e) × (left ≡ bytes)

-- the instruction that the bytes spell is refused, whatever follows them, and not for memory
pub record RefusesWhole (old new : Table) (encoding : List ℕ) (e : DecoderError) : Type 0 where
  pub stops : (more : List ℕ) → (left : List ℕ) × Stops old (encoding ++ more) left e
  pub same : new ≡ old
  pub room : e ≢ decoder.Memory

-- the instruction that the bytes spell is refused, or memory is
abbrev pub FailsWhole : Table → Table → List ℕ → Fault → Type 0
FailsWhole old new encoding (Refused e) = RefusesWhole old new encoding e
FailsWhole old new encoding Memory = Unit {0}
FailsWhole old new encoding fault = ⊥

-- the instruction that the bytes spell is applied, or not
abbrev pub AppliesWhole : Table → Table → List ℕ → EncoderInstruction → Result ⊤ Fault → Type 0
AppliesWhole old new encoding i (Ok done) = apply_encoder_instruction old i ≡ Ok new
AppliesWhole old new encoding i (Err fault) = FailsWhole old new encoding fault

-- an instruction was applied, and its line is written after the earlier text
pub record InspectsOne (old new : Table) (bytes left before after : List ℕ) : Type 0 where
  pub takes : TakesOne old new bytes left
  pub text : after ≡ before ++ instruction_text takes.instruction

-- the next instruction is refused, and not for memory
pub record StopsInspecting (old new : Table) (bytes : List ℕ) (e : DecoderError) : Type 0 where
  pub left : List ℕ
  pub stops : Stops old bytes left e
  pub same : new ≡ old
  pub room : e ≢ decoder.Memory

-- the next instruction is refused, or out of memory
abbrev pub FailsNext : Table → Table → List ℕ → List ℕ → List ℕ → Fault → Type 0
FailsNext old new bytes before after (Refused e) = StopsInspecting old new bytes e × (after ≡ before)
FailsNext old new bytes before after Memory = Unit {0}
FailsNext old new bytes before after fault = ⊥

abbrev pub InspectsNext : Table → Table → List ℕ → List ℕ → List ℕ → List ℕ → Result Bool Fault → Type 0
InspectsNext old new bytes left before after (Ok true) = InspectsOne old new bytes left before after
InspectsNext old new bytes left before after (Ok false) =
    Truncates encoder_instruction_form bytes × (left ≡ bytes) × (new ≡ old) × (after ≡ before)
InspectsNext old new bytes left before after (Err fault) = FailsNext old new bytes before after fault

-- the instructions are applied up to the one that is refused, or memory was refused
abbrev pub FailsInstructions : Table → List ℕ → List ℕ → List ℕ → Fault → Type 0
FailsInstructions old bytes before after (Refused e) = (out : List ℕ) × InspectsUntil old bytes e out
    × (after ≡ before ++ out)
FailsInstructions old bytes before after Memory = Unit {0}
FailsInstructions old bytes before after fault = ⊥

-- this many bytes are consumed, and the lines of their instructions are written after the earlier text
abbrev pub InspectsInstructions : Table → Table → List ℕ → List ℕ → List ℕ → Result ℕ Fault → Type 0
InspectsInstructions old new bytes before after (Ok taken) =
    (out : List ℕ) × InspectsAll old new bytes (drop taken bytes) out × (after ≡ before ++ out) × (taken ≤ length bytes)
InspectsInstructions old new bytes before after (Err fault) = FailsInstructions old bytes before after fault

-- ---- blocks

-- the lines of a block are written after the earlier text, or memory was refused
abbrev pub InspectsBlock : Table → List ℕ → List ℕ → List ℕ → Result ⊤ Fault → Type 0
InspectsBlock t bytes before after (Ok done) = (out : List ℕ) × PrintsBlock t bytes out × (after ≡ before ++ out)
InspectsBlock t bytes before after (Err fault) = fault ≡ Memory

-- a block that was read of this prefix and these lines
abbrev pub block_of_lines : HeaderPrefix → List BlockLine → Block
block_of_lines prefix lines = record { prefix = prefix_of prefix; lines = map line_of lines }

-- the lines of a block that was read, and decoded to these fields, are written after the earlier text, or memory was
-- refused
abbrev pub PrintsRead : Table → Block → List Field → List ℕ → List ℕ → Result ⊤ Fault → Type 0
PrintsRead t block fs before after (Ok done) =
    (prefix : ℕ × ℕ)
    × (read_prefix (insert_count t) (maximum_capacity t.agreed_max t.capacity) block.prefix ≡ Ok prefix)
    × (after ≡ before ++ (prefix_text prefix ++ flat_map line_text block.lines ++ fields_text fs))
PrintsRead t block fs before after (Err fault) = fault ≡ Memory

-- the lines of a block that was decoded to these fields are written after the earlier text, or memory was refused
abbrev pub PrintsSection : Table → List ℕ → List Field → List ℕ → List ℕ → Result ⊤ Fault → Type 0
PrintsSection t bytes fs before after (Ok done) =
    (out : List ℕ) × PrintsLines t bytes fs out × (after ≡ before ++ out)
PrintsSection t bytes fs before after (Err fault) = fault ≡ Memory

-- ---- all events

abbrev pub FailsInspecting : Table → List Event → List ℕ → List ℕ → Fault → Type 0
FailsInspecting t events before after (Refused e) =
    (out : List ℕ) × Inspects t [] events out (Some e) × (after ≡ before ++ out)
FailsInspecting t events before after Memory = Unit {0}
FailsInspecting t events before after fault = ⊥

abbrev pub InspectsEvents : Table → List Event → List ℕ → List ℕ → Result ⊤ Fault → Type 0
InspectsEvents t events before after (Ok done) =
    (out : List ℕ) × Inspects t [] events out None × (after ≡ before ++ out)
InspectsEvents t events before after (Err fault) = FailsInspecting t events before after fault

-- the events are inspected by a decoder that begins empty, with this capacity, which is the agreed maximum too; or the
-- capacity is refused
abbrev pub InspectsFromEmpty : ℕ → List Event → List ℕ → List ℕ → Result ⊤ Fault → Type 0
InspectsFromEmpty capacity events before after (Err Capacity) = 2 ^ 30 ≤ capacity
InspectsFromEmpty capacity events before after r =
    (capacity < 2 ^ 30) × InspectsEvents (empty_table capacity (Some capacity) 0) events before after r

-- why an input is not inspected: a line is no event, or none is but the capacity is refused; or memory is
abbrev pub FailsInspection : ℕ → List ℕ → Fault → Type 0
FailsInspection capacity input (BadEvent n) = events_of input ≡ Err n
FailsInspection capacity input Capacity = IsOk (events_of input) × (2 ^ 30 ≤ capacity)
FailsInspection capacity input Memory = Unit {0}
FailsInspection capacity input fault = ⊥

abbrev pub InspectsInput : ℕ → List ℕ → Result Inspection Fault → Type 0
InspectsInput capacity input (Ok i) = PrintsInspection capacity input (string_bytes i.text) i.refused
InspectsInput capacity input (Err fault) = FailsInspection capacity input fault
