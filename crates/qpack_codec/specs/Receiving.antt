-- What a decoder does with the bytes of the encoder stream (RFC 9204, sections 4.3 and 4.4.3).
use Rattle.std.specs.Prelude.{◌≡◌, ℕ, ◌+◌, ◌-◌, ◌<◌, ◌⊎◌, ⊤, Bool, true, false, if◌then◌else◌, List, ◌++◌, Option, None}
use Rattle.std.specs.Prelude.{Some}
use Rattle.std.specs.Prelude.{IsSome, slice_get, Result, Ok, Err, ◌≤◌, length, vec_len, vec_capacity}
use Rattle.std.specs.declared.vec.Vec.{Vec}
use Rattle.std.specs.Option.{option_map}
use Rattle.qpack_spec.specs.Bytes.{Begins}
use Rattle.qpack_spec.specs.Field.{Field}
use Rattle.qpack_spec.specs.Form.{FormFault}
use Rattle.qpack_spec.specs.Instruction.{EncoderInstruction, InsertStaticName, InsertDynamicName, InsertLiteralName}
use Rattle.qpack_spec.specs.Instruction.{Duplicate, SetCapacity, encoder_instruction_form, SpellsEncoderInstruction}
use Rattle.qpack_spec.specs.Instruction.{RefusesEncoderInstruction, written_decoder_instructions}
use Rattle.qpack_spec.specs.StaticTable.{static_table}
use Rattle.qpack_rules.specs.Session.{is_consumed, increments, pieces_of}
use Rattle.qpack_spec.specs.Table.{Table, window, insert_count, apply_encoder_instruction, put}
use Rattle.qpack_spec.specs.Window.{TableRefusal, NoEntry, NoStaticField, DoesNotFit, AboveMaximum, UnknownStream}
use Rattle.qpack_spec.specs.Window.{relative_entry, with_value}
use Rattle.qpack_rules.specs.Taking.{TakesAllOf}
use Rattle.qpack_base.specs.Refusals.{IsRefusedFor}
use Rattle.qpack_table.specs.declared.dynamic.Error.TheVariants.{BadRelativeIndex, MaxTableSizeReached}
use Rattle.qpack_table.specs.declared.dynamic.Error.TheVariants.{MaximumTableSizeTooLarge, UnknownStreamId}
use Rattle.qpack_wire.specs.Memory.{AsksForMemory}
use Rattle.qpack_wire.specs.declared.stream.bounded.NameSource.{NameSource}
use Rattle.qpack_wire.specs.declared.stream.bounded.NameSource.TheVariants.{Static, Dynamic, Literal}
use Rattle.qpack_codec.specs.Sections.{form_fault_of}
use Rattle.qpack_codec.specs.declared.error.DecoderError.{DecoderError}
use Rattle.qpack_codec.specs.declared.error.DecoderError.TheVariants.{DynamicTable, InvalidStaticIndex, Memory}
use Rattle.qpack_codec.specs.Taking.{TakesOneOf, TakesNextOf, EndsTakingOf}

-- a decoder: its table, and how many insertions it has not reported yet
pub record DecoderView : Type 0 where
  pub table : Table
  pub unreported : ℕ

-- the refusal of the table that an error reports
abbrev pub refusal_of : DecoderError → Option TableRefusal
refusal_of (DynamicTable (BadRelativeIndex relative)) = Some (NoEntry relative)
refusal_of (DynamicTable MaxTableSizeReached) = Some DoesNotFit
refusal_of (DynamicTable MaximumTableSizeTooLarge) = Some AboveMaximum
refusal_of (DynamicTable (UnknownStreamId stream)) = Some (UnknownStream stream)
refusal_of (InvalidStaticIndex index) = Some (NoStaticField index)
refusal_of e = None

-- ---- one instruction

-- the table is what the instruction makes of it, or unchanged if it is refused, or memory is
abbrev pub Applies : Result ⊤ DecoderError → Result Table TableRefusal → Table → Table → Type 0
Applies (Ok done) read old new = read ≡ Ok new
Applies (Err Memory) read old new = new ≡ old
Applies (Err e) read old new = IsRefusedFor read (refusal_of e) × (new ≡ old)

-- the field that an instruction is to insert, if what it references is there (sections 4.3.2 to 4.3.4)
abbrev pub field_to_insert : Table → EncoderInstruction → Option Field
field_to_insert t (InsertStaticName index value) = option_map (λ f. with_value value f) (slice_get static_table index)
field_to_insert t (InsertDynamicName relative value) = option_map (λ f. with_value value f)
    (relative_entry (window t) relative)
field_to_insert t (InsertLiteralName name value) = Some (record { name = name; value = value })
field_to_insert t (Duplicate relative) = relative_entry (window t) relative
field_to_insert t (SetCapacity capacity) = None

-- how many bytes the name and the value of a field that fits have together at most (section 3.2.2)
abbrev pub longest_texts : Table → ℕ
longest_texts t = t.capacity - 32

-- the name that an insertion references is there
abbrev pub HasName : Table → NameSource → Type 0
HasName t (Static index) = IsSome (slice_get static_table index)
HasName t (Dynamic relative) = IsSome (relative_entry (window t) relative)
HasName t Literal = Unit {0}

-- it is not there, as this error says
abbrev pub LacksName : Table → NameSource → DecoderError → Type 0
LacksName t (Static index) e = (e ≡ InvalidStaticIndex index) × (slice_get static_table index ≡ None)
LacksName t (Dynamic relative) e =
    (e ≡ DynamicTable (BadRelativeIndex relative)) × (relative_entry (window t) relative ≡ None)
LacksName t Literal e = ⊥

-- the field that an instruction is to insert was found; or it is refused as the instruction is, or memory is refused
abbrev pub FindsField : {S : Type 0} → (S → Field) → Table → EncoderInstruction → Result S DecoderError → Type 0
FindsField field t i (Ok found) = IsSome (field_to_insert t i) × (apply_encoder_instruction t i ≡ put t (field found))
FindsField field t i (Err Memory) = IsSome (field_to_insert t i)
FindsField field t i (Err e) = IsRefusedFor (apply_encoder_instruction t i) (refusal_of e)

-- memory may be asked for: a string of the next instruction is whole, or a field is to be inserted
abbrev pub AsksToTake : Table → List ℕ → Type 0
AsksToTake t rest =
    AsksForMemory encoder_instruction_form rest
    ⊎ Begins (λ encoding. (i : EncoderInstruction) × SpellsEncoderInstruction encoding i × IsSome (field_to_insert t i))
    rest

-- why an instruction is not taken: memory is refused; the bytes are; or the table refuses it, which consumes it if
-- what it asks for is known. `left` is what is left of the bytes
pub data Stops (t : Table) (rest left : List ℕ) (e : DecoderError) : Type 0 where
  no_memory : AsksToTake t rest → e ≡ Memory → left ≡ rest → Stops t rest left e
  bad_bytes : (fault : FormFault) → Begins (λ encoding. RefusesEncoderInstruction encoding fault) rest
      → form_fault_of e ≡ Some fault
      → left ≡ rest → Stops t rest left e
  bad_instruction : (encoding more : List ℕ) (i : EncoderInstruction) (refusal : TableRefusal) → rest ≡ encoding ++ more
      → SpellsEncoderInstruction encoding i
      → apply_encoder_instruction t i ≡ Err refusal → refusal_of e ≡ Some refusal
      → left ≡ (if is_consumed refusal then more else rest)
      → Stops t rest left e

-- an instruction was taken from the front of the bytes
abbrev pub TakesOne : Table → Table → List ℕ → List ℕ → Type 0
TakesOne old new rest left = TakesOneOf encoder_instruction_form apply_encoder_instruction old new rest left

-- an instruction is applied, or none is whole, or it is not applied
abbrev pub TakesNext : Table → Table → List ℕ → List ℕ → Result Bool DecoderError → Type 0
TakesNext old new rest left r =
    TakesNextOf encoder_instruction_form apply_encoder_instruction Stops old new rest left r

-- the cursor moves past an instruction with this result: it was applied, or the table rejects what it asks for
abbrev pub is_passed_for : Option TableRefusal → Bool
is_passed_for None = false
is_passed_for (Some refusal) = is_consumed refusal

abbrev pub is_passed : Result ⊤ DecoderError → Bool
is_passed (Ok done) = true
is_passed (Err e) = is_passed_for (refusal_of e)

-- ---- all whole instructions

-- after those that were applied none is whole, or one is not applied
abbrev pub EndsTaking : Table → List ℕ → List ℕ → Result ⊤ DecoderError → Type 0
EndsTaking t rest left r = EndsTakingOf encoder_instruction_form Stops t rest left r

-- the instructions at the front of the bytes are taken, each with what it makes of the table
abbrev pub TakesInstructions : Table → Table → List ℕ → List ℕ → Result ⊤ DecoderError → Type 0
TakesInstructions old new bytes left r =
    TakesAllOf encoder_instruction_form apply_encoder_instruction old new bytes
    (λ front rest. EndsTaking new rest left r)

-- ---- a call

-- the insertions that are to be reported, those of the call among them
abbrev pub to_report : DecoderView → Table → ℕ
to_report d t = d.unreported + (insert_count t - insert_count d.table)

-- what reports this many insertions: an increment for each of their pieces
abbrev pub written_report : ℕ → List ℕ
written_report many = written_decoder_instructions (increments (pieces_of many))

-- a vector has free room for what reports the insertions of a call, and of calls before that were not reported
abbrev pub HasRoomToReport : {A : Type 0} → DecoderView → Table → Vec ℕ A → Type 0
HasRoomToReport d t write = vec_len write + length (written_report (to_report d t)) ≤ vec_capacity write

-- how a call ends after the instructions that it applied: all its insertions are reported, with those of earlier calls
-- that were not, and the total is returned; or it fails, writes nothing, and keeps them all to be reported
abbrev pub EndsReceiving : DecoderView → DecoderView → Result ⊤ DecoderError → List ℕ → List ℕ → Result ℕ DecoderError
    → Type 0
EndsReceiving old new (Ok done) written_old written_new (Ok total) =
    (total ≡ insert_count new.table) × (new.unreported ≡ 0)
    × (written_new ≡ written_old ++ written_report (to_report old new.table))
EndsReceiving old new (Ok done) written_old written_new (Err e) =
    (e ≡ Memory) × (0 < to_report old new.table) × (new.unreported ≡ to_report old new.table)
    × (written_new ≡ written_old)
EndsReceiving old new (Err e) written_old written_new r =
    (r ≡ Err e) × (new.unreported ≡ to_report old new.table) × (written_new ≡ written_old)

-- bytes of the encoder stream are received, after which these are left, and these are written for the decoder stream
pub record Receives (old new : DecoderView) (bytes left written_old written_new : List ℕ) (r : Result ℕ DecoderError)
    : Type 0 where
  pub taken : Result ⊤ DecoderError
  pub takes : TakesInstructions old.table new.table bytes left taken
  pub ends : EndsReceiving old new taken written_old written_new r
