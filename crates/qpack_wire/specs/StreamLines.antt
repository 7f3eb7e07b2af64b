-- One line of a stream: an encoder instruction or a decoder instruction, whichever it is
-- (RFC 9204, sections 4.3 and 4.4).
use Rattle.std.specs.Prelude.{ℕ, List, Result, if◌then◌else◌, nat_lt}
use Rattle.qpack_spec.specs.Form.{form_at}
use Rattle.qpack_spec.specs.Instruction.{EncoderInstruction, DecoderInstruction, encoder_instruction_form}
use Rattle.qpack_spec.specs.Instruction.{decoder_instruction_form, RefusesEncoderInstruction}
use Rattle.qpack_spec.specs.Instruction.{RefusesDecoderInstruction}
use Rattle.qpack_wire.specs.Alone.{KindFault, Unreadable, Foreign, or_unreadable}
use Rattle.qpack_wire.specs.Instructions.{encoder_instruction_of_insert_with_name_ref}
use Rattle.qpack_wire.specs.Instructions.{encoder_instruction_of_insert_without_name_ref}
use Rattle.qpack_wire.specs.Instructions.{encoder_instruction_of_duplicate}
use Rattle.qpack_wire.specs.Instructions.{encoder_instruction_of_dynamic_table_size_update}
use Rattle.qpack_wire.specs.Instructions.{decoder_instruction_of_insert_count_increment}
use Rattle.qpack_wire.specs.Instructions.{decoder_instruction_of_header_ack, decoder_instruction_of_stream_cancel}
use Rattle.qpack_wire.specs.declared.stream.encoder_stream.EncoderInstruction.{EncoderInstruction as EncoderKind}
use Rattle.qpack_wire.specs.declared.stream.encoder_stream.EncoderInstruction.TheVariants as encoder
use Rattle.qpack_wire.specs.declared.stream.encoder_stream.EncoderLine.{EncoderLine}
use Rattle.qpack_wire.specs.declared.stream.encoder_stream.EncoderLine.TheVariants as line
use Rattle.qpack_wire.specs.declared.stream.decoder_stream.DecoderInstruction.{DecoderInstruction as DecoderKind}
use Rattle.qpack_wire.specs.declared.stream.decoder_stream.DecoderInstruction.TheVariants as decoder
use Rattle.qpack_wire.specs.declared.stream.decoder_stream.DecoderLine.{DecoderLine}
use Rattle.qpack_wire.specs.declared.stream.decoder_stream.DecoderLine.TheVariants as decoder_instruction

-- the encoder instruction that a first byte determines: 000, 001, 01H and 1T
abbrev pub encoder_instruction_of_first : ℕ → EncoderKind
encoder_instruction_of_first first =
    if nat_lt first 32 then encoder.Duplicate
    else if nat_lt first 64 then encoder.DynamicTableSizeUpdate
    else if nat_lt first 128 then encoder.InsertWithoutNameRef
    else encoder.InsertWithNameRef

-- the decoder instruction that a first byte determines: 00, 01 and 1
abbrev pub decoder_instruction_of_first : ℕ → DecoderKind
decoder_instruction_of_first first =
    if nat_lt first 64 then decoder.InsertCountIncrement
    else if nat_lt first 128 then decoder.StreamCancel
    else decoder.HeaderAck

-- the encoder instruction that a value of the code represents
abbrev pub encoder_instruction_of : EncoderLine → EncoderInstruction
encoder_instruction_of (line.InsertWithNameRef i) = encoder_instruction_of_insert_with_name_ref i
encoder_instruction_of (line.InsertWithoutNameRef i) = encoder_instruction_of_insert_without_name_ref i
encoder_instruction_of (line.Duplicate i) = encoder_instruction_of_duplicate i
encoder_instruction_of (line.DynamicTableSizeUpdate i) = encoder_instruction_of_dynamic_table_size_update i

-- the decoder instruction that a value of the code represents
abbrev pub decoder_instruction_of : DecoderLine → DecoderInstruction
decoder_instruction_of (decoder_instruction.InsertCountIncrement r) = decoder_instruction_of_insert_count_increment r
decoder_instruction_of (decoder_instruction.HeaderAck r) = decoder_instruction_of_header_ack r
decoder_instruction_of (decoder_instruction.StreamCancel r) = decoder_instruction_of_stream_cancel r

-- the bytes are refused as an encoder instruction; no first bits are foreign
abbrev pub RefusesEncoderLine : List ℕ → KindFault → Type 0
RefusesEncoderLine encoding (Unreadable fault) = RefusesEncoderInstruction encoding fault
RefusesEncoderLine encoding (Foreign bits) = ⊥

-- the bytes are refused as a decoder instruction; no first bits are foreign
abbrev pub RefusesDecoderLine : List ℕ → KindFault → Type 0
RefusesDecoderLine encoding (Unreadable fault) = RefusesDecoderInstruction encoding fault
RefusesDecoderLine encoding (Foreign bits) = ⊥

-- the encoder instruction at the front of the bytes, and the bytes after it
abbrev pub encoder_instruction_at : List ℕ → Result (EncoderInstruction × List ℕ) KindFault
encoder_instruction_at bytes = or_unreadable (form_at encoder_instruction_form bytes)

-- the decoder instruction at the front of the bytes, and the bytes after it
abbrev pub decoder_instruction_at : List ℕ → Result (DecoderInstruction × List ℕ) KindFault
decoder_instruction_at bytes = or_unreadable (form_at decoder_instruction_form bytes)
