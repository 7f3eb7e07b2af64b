-- The instructions of the encoder stream and of the decoder's, and their bytes (RFC 9204, sections 4.3 and 4.4).
use Rattle.std.specs.Prelude.{ℕ, if◌then◌else◌, nat_lt, List, [], ◌∷◌, ◌++◌, Option, None, Some}
use Rattle.qpack_spec.specs.Integer.{written_integer}
use Rattle.qpack_spec.specs.Text.{Coding, Always, coded_string}
use Rattle.qpack_spec.specs.Form.{FormFault, Form, Index, IndexAndValue, NameAndValue, Spells, Refuses}

-- an encoder instruction (section 4.3); a relative index counts from the newest entry, which is 0
pub data EncoderInstruction : Type 0 where
  InsertStaticName : (index : ℕ) (value : List ℕ) → EncoderInstruction
  InsertDynamicName : (relative : ℕ) (value : List ℕ) → EncoderInstruction
  InsertLiteralName : (name value : List ℕ) → EncoderInstruction
  Duplicate : (relative : ℕ) → EncoderInstruction
  SetCapacity : (capacity : ℕ) → EncoderInstruction

-- a decoder instruction (section 4.4): what the decoder sends to the encoder
pub data DecoderInstruction : Type 0 where
  Acknowledgment : (stream : ℕ) → DecoderInstruction
  Cancellation : (stream : ℕ) → DecoderInstruction
  Increment : (by : ℕ) → DecoderInstruction

-- what the first byte says of an encoder instruction: its first bits are 000, 001, 01H, 10 and 11 (sections 4.3.1 to
-- 4.3.4)
unfoldable pub encoder_instruction_form : ℕ → Option (Form EncoderInstruction)
encoder_instruction_form first =
    if nat_lt first 32 then Some (Index 5 Duplicate)
    else if nat_lt first 64 then Some (Index 5 SetCapacity)
    else if nat_lt first 128 then Some (NameAndValue 6 InsertLiteralName)
    else if nat_lt first 192 then Some (IndexAndValue 6 InsertDynamicName)
    else if nat_lt first 256 then Some (IndexAndValue 6 InsertStaticName)
    else None

-- what the first byte says of a decoder instruction: its first bits are 00, 01 and 1 (sections 4.4.1 to 4.4.3)
unfoldable pub decoder_instruction_form : ℕ → Option (Form DecoderInstruction)
decoder_instruction_form first =
    if nat_lt first 64 then Some (Index 6 Increment)
    else if nat_lt first 128 then Some (Index 6 Cancellation)
    else if nat_lt first 256 then Some (Index 7 Acknowledgment)
    else None

-- the bytes are a spelling of the encoder instruction
abbrev pub SpellsEncoderInstruction : List ℕ → EncoderInstruction → Type 0
SpellsEncoderInstruction encoding i = Spells EncoderInstruction encoder_instruction_form encoding i

-- the bytes are refused as an encoder instruction
abbrev pub RefusesEncoderInstruction : List ℕ → FormFault → Type 0
RefusesEncoderInstruction encoding fault = Refuses EncoderInstruction encoder_instruction_form encoding fault

-- the bytes are a spelling of the decoder instruction
abbrev pub SpellsDecoderInstruction : List ℕ → DecoderInstruction → Type 0
SpellsDecoderInstruction encoding r = Spells DecoderInstruction decoder_instruction_form encoding r

-- the bytes are refused as a decoder instruction
abbrev pub RefusesDecoderInstruction : List ℕ → FormFault → Type 0
RefusesDecoderInstruction encoding fault = Refuses DecoderInstruction decoder_instruction_form encoding fault

-- the written spelling of an encoder instruction under a coding: every integer is the shortest
unfoldable pub coded_encoder_instruction : Coding → EncoderInstruction → List ℕ
coded_encoder_instruction coding (InsertStaticName index value) = written_integer 6 3 index ++ coded_string coding 8 0 value
coded_encoder_instruction coding (InsertDynamicName relative value) = written_integer 6 2 relative
    ++ coded_string coding 8 0 value
coded_encoder_instruction coding (InsertLiteralName name value) = coded_string coding 6 1 name ++ coded_string coding 8 0 value
coded_encoder_instruction coding (Duplicate relative) = written_integer 5 0 relative
coded_encoder_instruction coding (SetCapacity capacity) = written_integer 5 1 capacity

-- the written encoder instructions, one after the other
unfoldable pub coded_encoder_instructions : Coding → List EncoderInstruction → List ℕ
coded_encoder_instructions coding [] = []
coded_encoder_instructions coding (i ∷ is) =
    coded_encoder_instruction coding i ++ coded_encoder_instructions coding is

-- the same where every string is coded
abbrev pub written_encoder_instruction : EncoderInstruction → List ℕ
written_encoder_instruction i = coded_encoder_instruction Always i

abbrev pub written_encoder_instructions : List EncoderInstruction → List ℕ
written_encoder_instructions is = coded_encoder_instructions Always is

-- the written spelling of a decoder instruction
unfoldable pub written_decoder_instruction : DecoderInstruction → List ℕ
written_decoder_instruction (Acknowledgment stream) = written_integer 7 1 stream
written_decoder_instruction (Cancellation stream) = written_integer 6 1 stream
written_decoder_instruction (Increment by) = written_integer 6 0 by

-- the written decoder instructions, one after the other
unfoldable pub written_decoder_instructions : List DecoderInstruction → List ℕ
written_decoder_instructions [] = []
written_decoder_instructions (r ∷ rs) = written_decoder_instruction r ++ written_decoder_instructions rs
