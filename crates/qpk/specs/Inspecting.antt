-- What an inspection prints of a connection that was recorded (RFC 9204, sections 3.2, 4.3 and 4.5).
use Rattle.std.specs.Prelude.{◌≡◌, ◌≢◌, ℕ, ◌^◌, ◌<◌, ◌⊎◌, List, [], ◌∷◌, ◌++◌, length, codes, Option}
use Rattle.std.specs.Prelude.{None, Some, Result, Ok, Err, if◌then◌else◌}
use Rattle.std.specs.Fmt.{decimal}
use Rattle.std.specs.List.{flat_map}
use Rattle.std.specs.Str.{bytes_eq}
use Rattle.hex.specs.Hex.{encode_lower, decode_of}
use Rattle.hex.specs.declared.FromHexError.{FromHexError}
use Rattle.qpack_spec.specs.Field.{Field, total_size}
use Rattle.qpack_spec.specs.Instruction.{EncoderInstruction, InsertStaticName, InsertDynamicName, InsertLiteralName}
use Rattle.qpack_spec.specs.Instruction.{Duplicate, SetCapacity}
use Rattle.qpack_spec.specs.Line.{Line, IndexedStatic, IndexedDynamic, IndexedPostBase, NamedStatic, NamedDynamic}
use Rattle.qpack_spec.specs.Line.{NamedPostBase, Literal}
use Rattle.qpack_spec.specs.Prefix.{read_prefix}
use Rattle.qpack_spec.specs.Reading.{Block, Reading, Fields, Missing, Faulty}
use Rattle.qpack_spec.specs.BlockReading.{reading_of_bytes}
use Rattle.qpack_spec.specs.Stateless.{saturated_size}
use Rattle.qpack_spec.specs.Table.{Table, empty_table, window, insert_count}
use Rattle.qpack_spec.specs.Window.{maximum_capacity}
use Rattle.qpack_wire.specs.Blocks.{SpellsBlock}
use Rattle.qpack_codec.specs.Receiving.{TakesInstructions}
use Rattle.qpack_codec.specs.declared.error.DecoderError.{DecoderError}
use Rattle.qpack_codec.specs.declared.error.DecoderError.TheVariants.{Memory}
use Rattle.qpack_codec.specs.Sections.{Tells}
use Rattle.qpk.specs.ErrorWords.{decoder_words, refused_text}
use Rattle.qpk_qif.specs.Lines.{lines_of, field_of_line}
use Rattle.qpk.specs.LineItems.{items_from}

-- ---- the input: a line an event

-- bytes of the encoder stream, after those that came before; or a block
pub data Event : Type 0 where
  Piece : (bytes : List ℕ) → Event
  Section : (block : List ℕ) → Event

-- the event of this name, with these bytes
abbrev pub event_named : List ℕ → List ℕ → Option Event
event_named name bytes =
    if bytes_eq name (codes "e") then Some (Piece bytes)
    else if bytes_eq name (codes "b") then Some (Section bytes)
    else None

-- the event of this name, if the bytes could be read from hexadecimal
abbrev pub event_of_bytes : List ℕ → Result (List ℕ) FromHexError → Option Event
event_of_bytes name (Ok bytes) = event_named name bytes
event_of_bytes name (Err e) = None

abbrev pub event_of_field : Option Field → Option Event
event_of_field None = None
event_of_field (Some f) = event_of_bytes f.name (decode_of f.value)

-- the event of a line: `e` or `b`, a TAB, and hexadecimal
abbrev pub event_of_line : List ℕ → Option Event
event_of_line line = event_of_field (field_of_line line)

-- the event of each line, or the number of the first line that is no event, the lines being numbered from n
abbrev pub events_from : ℕ → List (List ℕ) → Result (List Event) ℕ
events_from n lines = items_from event_of_line n lines

-- the events of an input
abbrev pub events_of : List ℕ → Result (List Event) ℕ
events_of input = events_from 1 (lines_of input)

-- ---- printed lines

-- bytes in lower-case hexadecimal, a minus for none
abbrev pub hexadecimal : List ℕ → List ℕ
hexadecimal [] = codes "-"
hexadecimal (b ∷ bytes) = encode_lower (b ∷ bytes)

-- a field, its name and its value separated by a TAB; and fields, a line each
abbrev pub hexadecimal_field : Field → List ℕ
hexadecimal_field f = hexadecimal f.name ++ codes "\t" ++ hexadecimal f.value ++ codes "\n"

abbrev pub hexadecimal_fields : List Field → List ℕ
hexadecimal_fields fs = flat_map hexadecimal_field fs

-- words and two numbers
abbrev pub numbers_text : List ℕ → ℕ → ℕ → List ℕ
numbers_text words first second = words ++ codes " " ++ decimal first ++ codes " " ++ decimal second ++ codes "\n"

-- words and an index; with a value; or words, a name and a value
abbrev pub index_text : List ℕ → ℕ → List ℕ
index_text words index = words ++ codes " " ++ decimal index ++ codes "\n"

abbrev pub index_value_text : List ℕ → ℕ → List ℕ → List ℕ
index_value_text words index value = words ++ codes " " ++ decimal index ++ codes " " ++ hexadecimal value ++ codes "\n"

abbrev pub name_value_text : List ℕ → List ℕ → List ℕ → List ℕ
name_value_text words name value =
    words ++ codes " " ++ hexadecimal name ++ codes " " ++ hexadecimal value ++ codes "\n"

-- an encoder instruction (section 4.3)
abbrev pub instruction_text : EncoderInstruction → List ℕ
instruction_text (InsertStaticName index value) = index_value_text (codes "insert static") index value
instruction_text (InsertDynamicName relative value) = index_value_text (codes "insert dynamic") relative value
instruction_text (InsertLiteralName name value) = name_value_text (codes "insert literal") name value
instruction_text (Duplicate relative) = index_text (codes "duplicate") relative
instruction_text (SetCapacity capacity) = index_text (codes "capacity") capacity

abbrev pub instructions_text : List EncoderInstruction → List ℕ
instructions_text lines = flat_map instruction_text lines

-- how many insertions were ever received
abbrev pub received_text : Table → List ℕ
received_text t = index_text (codes "received") (insert_count t)

-- a field line (section 4.5)
abbrev pub line_text : Line → List ℕ
line_text (IndexedStatic index) = index_text (codes "indexed static") index
line_text (IndexedDynamic relative) = index_text (codes "indexed dynamic") relative
line_text (IndexedPostBase post_base) = index_text (codes "postbase") post_base
line_text (NamedStatic index value) = index_value_text (codes "nameref static") index value
line_text (NamedDynamic relative value) = index_value_text (codes "nameref dynamic") relative value
line_text (NamedPostBase post_base value) = index_value_text (codes "postbase nameref") post_base value
line_text (Literal name value) = name_value_text (codes "literal") name value

-- a required insert count and a base (section 4.5.1)
abbrev pub prefix_text : ℕ × ℕ → List ℕ
prefix_text p = numbers_text (codes "prefix") p.0 p.1

-- how many fields there are, and the sum of their sizes (section 3.2.1)
abbrev pub fields_text : List Field → List ℕ
fields_text fs = numbers_text (codes "fields") (length fs) (saturated_size (total_size fs))

-- ---- an event of the encoder stream: the whole instructions are applied in turn

-- each was applied, and what is left is truncated
pub record InspectsAll (old new : Table) (bytes left out : List ℕ) : Type 0 where
  pub takes : TakesInstructions old new bytes left (Ok tt)
  pub text : out ≡ instructions_text takes.lines ++ received_text new

-- the one after those that were applied is refused, and not for memory
pub record InspectsUntil (old : Table) (bytes : List ℕ) (e : DecoderError) (out : List ℕ) : Type 0 where
  pub new : Table
  pub left : List ℕ
  pub takes : TakesInstructions old new bytes left (Err e)
  pub text : out ≡ instructions_text takes.lines
  pub room : e ≢ Memory

-- ---- a block

-- its prefix and its lines, in their order, and what they mean
pub record PrintsLines (t : Table) (bytes : List ℕ) (fs : List Field) (out : List ℕ) : Type 0 where
  pub block : Block
  pub spells : SpellsBlock bytes block
  pub prefix : ℕ × ℕ
  pub reads : read_prefix (insert_count t) (maximum_capacity t.agreed_max t.capacity) block.prefix ≡ Ok prefix
  pub text : out ≡ prefix_text prefix ++ flat_map line_text block.lines ++ fields_text fs

-- what is printed of a block under the table: which insert count it waits for, or that it is refused, in the words of
-- an error that reports its fault, or all of it
abbrev pub PrintsReading : Table → List ℕ → Reading → List ℕ → Type 0
PrintsReading t bytes (Missing required) out = out ≡ index_text (codes "missing") required
PrintsReading t bytes (Faulty fault) out =
    (e : DecoderError) × Tells e fault × (out ≡ refused_text (decoder_words e))
PrintsReading t bytes (Fields fs is_dynamic) out = PrintsLines t bytes fs out

abbrev pub PrintsBlock : Table → List ℕ → List ℕ → Type 0
PrintsBlock t bytes out = PrintsReading t bytes (reading_of_bytes (window t) bytes) out

-- ---- all events in turn, the table and the unread bytes of the encoder stream being these

abbrev pub Inspects : Table → List ℕ → List Event → List ℕ → Option DecoderError → Type 0
Inspects t unread [] out refused = (out ≡ []) × (refused ≡ None)
Inspects t unread (Piece bytes ∷ events) out refused =
    ((new : Table) × (left : List ℕ) × (here : List ℕ) × (more : List ℕ) × InspectsAll t new (unread ++ bytes) left here
    × Inspects new left events more refused × (out ≡ here ++ more))
    ⊎ ((e : DecoderError) × InspectsUntil t (unread ++ bytes) e out × (refused ≡ Some e))
Inspects t unread (Section block ∷ events) out refused =
    (here : List ℕ) × (more : List ℕ) × PrintsBlock t block here × Inspects t unread events more refused
    × (out ≡ here ++ more)

-- what is printed of an input, and the refusal at which that ends, if there is one: the decoder begins empty, with this
-- capacity, which is the agreed maximum too
pub record PrintsInspection (capacity : ℕ) (input out : List ℕ) (refused : Option DecoderError) : Type 0 where
  pub events : List Event
  pub are_events : events_of input ≡ Ok events
  pub small : capacity < 2 ^ 30
  pub inspects : Inspects (empty_table capacity (Some capacity) 0) [] events out refused
