-- The seven instructions, each read alone (RFC 9204, sections 4.3 and 4.4), and what values of the code represent.
use Rattle.std.specs.Prelude.{ℕ, ◌/◌, ◌%◌, if◌then◌else◌, nat_eq, Option, None, Some}
use Rattle.qpack_spec.specs.Form.{Form, Index, IndexAndValue, NameAndValue}
use Rattle.qpack_spec.specs.Instruction as instruction
use Rattle.qpack_spec.specs.Instruction.{EncoderInstruction, InsertStaticName, InsertDynamicName, InsertLiteralName}
use Rattle.qpack_spec.specs.Instruction.{SetCapacity, DecoderInstruction, Acknowledgment, Cancellation, Increment}
use Rattle.qpack_wire.specs.Alone.{Kind, ByFlags, ByFirstByte}
use Rattle.qpack_wire.specs.declared.stream.encoder_instructions.InsertWithNameRef.{InsertWithNameRef}
use Rattle.qpack_wire.specs.declared.stream.encoder_instructions.InsertWithNameRef.TheVariants as names
use Rattle.qpack_wire.specs.declared.stream.encoder_instructions.InsertWithoutNameRef.{InsertWithoutNameRef}
use Rattle.qpack_wire.specs.declared.stream.encoder_instructions.Duplicate.{Duplicate}
use Rattle.qpack_wire.specs.declared.stream.encoder_instructions.DynamicTableSizeUpdate.{DynamicTableSizeUpdate}
use Rattle.qpack_wire.specs.declared.stream.decoder_instructions.InsertCountIncrement.{InsertCountIncrement}
use Rattle.qpack_wire.specs.declared.stream.decoder_instructions.HeaderAck.{HeaderAck}
use Rattle.qpack_wire.specs.declared.stream.decoder_instructions.StreamCancel.{StreamCancel}

-- the first bits 1T, T being 1 for the static table
abbrev pub insert_with_name_ref_form : ℕ → Option (Form EncoderInstruction)
insert_with_name_ref_form flags =
    if nat_eq (flags / 2) 1
    then (
    if nat_eq (flags % 2) 1 then Some (IndexAndValue 6 InsertStaticName)
    else Some (IndexAndValue 6 InsertDynamicName)
    )
    else None

-- an insertion with a name reference (section 4.3.2)
abbrev pub insert_with_name_ref : Kind EncoderInstruction
insert_with_name_ref = ByFlags 6 insert_with_name_ref_form

-- the first bits 01H
abbrev pub insert_without_name_ref_form : ℕ → Option (Form EncoderInstruction)
insert_without_name_ref_form first = if nat_eq (first / 64) 1 then Some (NameAndValue 6 InsertLiteralName) else None

-- an insertion with a literal name (section 4.3.3), known by its whole first byte
abbrev pub insert_without_name_ref : Kind EncoderInstruction
insert_without_name_ref = ByFirstByte insert_without_name_ref_form

-- the first bits 000
abbrev pub duplicate_form : ℕ → Option (Form EncoderInstruction)
duplicate_form flags = if nat_eq flags 0 then Some (Index 5 instruction.Duplicate) else None

-- a duplication (section 4.3.4)
abbrev pub duplicate : Kind EncoderInstruction
duplicate = ByFlags 5 duplicate_form

-- the first bits 001
abbrev pub dynamic_table_size_update_form : ℕ → Option (Form EncoderInstruction)
dynamic_table_size_update_form flags = if nat_eq flags 1 then Some (Index 5 SetCapacity) else None

-- a capacity (section 4.3.1)
abbrev pub dynamic_table_size_update : Kind EncoderInstruction
dynamic_table_size_update = ByFlags 5 dynamic_table_size_update_form

-- the first bits 00
abbrev pub insert_count_increment_form : ℕ → Option (Form DecoderInstruction)
insert_count_increment_form flags = if nat_eq flags 0 then Some (Index 6 Increment) else None

-- an increment (section 4.4.3)
abbrev pub insert_count_increment : Kind DecoderInstruction
insert_count_increment = ByFlags 6 insert_count_increment_form

-- the first bit 1
abbrev pub header_ack_form : ℕ → Option (Form DecoderInstruction)
header_ack_form flags = if nat_eq flags 1 then Some (Index 7 Acknowledgment) else None

-- an acknowledgment (section 4.4.1)
abbrev pub header_ack : Kind DecoderInstruction
header_ack = ByFlags 7 header_ack_form

-- the first bits 01
abbrev pub stream_cancel_form : ℕ → Option (Form DecoderInstruction)
stream_cancel_form flags = if nat_eq flags 1 then Some (Index 6 Cancellation) else None

-- a cancellation (section 4.4.2)
abbrev pub stream_cancel : Kind DecoderInstruction
stream_cancel = ByFlags 6 stream_cancel_form

-- ---- what values of the code represent

abbrev pub encoder_instruction_of_insert_with_name_ref : InsertWithNameRef → EncoderInstruction
encoder_instruction_of_insert_with_name_ref (names.Static index value) = InsertStaticName index value.items
encoder_instruction_of_insert_with_name_ref (names.Dynamic index value) = InsertDynamicName index value.items

abbrev pub encoder_instruction_of_insert_without_name_ref : InsertWithoutNameRef → EncoderInstruction
encoder_instruction_of_insert_without_name_ref i = InsertLiteralName i.name.items i.value.items

abbrev pub encoder_instruction_of_duplicate : Duplicate → EncoderInstruction
encoder_instruction_of_duplicate i = instruction.Duplicate i.0

abbrev pub encoder_instruction_of_dynamic_table_size_update : DynamicTableSizeUpdate → EncoderInstruction
encoder_instruction_of_dynamic_table_size_update i = SetCapacity i.0

abbrev pub decoder_instruction_of_insert_count_increment : InsertCountIncrement → DecoderInstruction
decoder_instruction_of_insert_count_increment r = Increment r.0

abbrev pub decoder_instruction_of_header_ack : HeaderAck → DecoderInstruction
decoder_instruction_of_header_ack r = Acknowledgment r.0

abbrev pub decoder_instruction_of_stream_cancel : StreamCancel → DecoderInstruction
decoder_instruction_of_stream_cancel r = Cancellation r.0
