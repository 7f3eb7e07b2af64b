-- What an encoder does with the bytes of the decoder stream (RFC 9204, section 4.4), and with a capacity
-- (section 3.2.3).
use Rattle.std.specs.Prelude.{◌≡◌, ℕ, ⊤, Bool, List, ◌++◌, Option, None, Some, Result, Ok, Err, IsOk}
use Rattle.qpack_spec.specs.Bytes.{Begins}
use Rattle.qpack_spec.specs.Form.{FormFault, BadInteger}
use Rattle.qpack_spec.specs.Instruction.{DecoderInstruction, decoder_instruction_form, SpellsDecoderInstruction}
use Rattle.qpack_spec.specs.Instruction.{RefusesDecoderInstruction, SetCapacity, written_encoder_instruction}
use Rattle.qpack_spec.specs.Table.{Table, apply_decoder_instruction, with_capacity}
use Rattle.qpack_spec.specs.Window.{TableRefusal}
use Rattle.qpack_rules.specs.Taking.{TakesAllOf}
use Rattle.qpack_base.specs.Integers.{integer_fault_of}
use Rattle.qpack_base.specs.Refusals.{IsRefusedFor}
use Rattle.qpack_table.specs.Tables as tables
use Rattle.qpack_codec.specs.declared.error.EncoderError.{EncoderError}
use Rattle.qpack_codec.specs.declared.error.EncoderError.TheVariants.{Insertion, InvalidInteger, Memory}
use Rattle.qpack_codec.specs.Taking.{TakesNextOf, EndsTakingOf}

-- the fault of bytes that an error reports
abbrev pub form_fault_of : EncoderError → Option FormFault
form_fault_of (InvalidInteger e) = Some (BadInteger (integer_fault_of e))
form_fault_of e = None

-- the refusal of the table that an error reports
abbrev pub refusal_of : EncoderError → Option TableRefusal
refusal_of (Insertion e) = tables.refusal_of e
refusal_of e = None

-- ---- one instruction

-- the table is what the instruction makes of it, or unchanged if it is refused
abbrev pub Applies : Result ⊤ EncoderError → Result Table TableRefusal → Table → Table → Type 0
Applies (Ok done) read old new = read ≡ Ok new
Applies (Err e) read old new = IsRefusedFor read (refusal_of e) × (new ≡ old)

-- why an instruction is not taken: its bytes are refused; or the table refuses it, which consumes it. `left` is what is
-- left of the bytes
pub data StopsHearing (t : Table) (rest left : List ℕ) (e : EncoderError) : Type 0 where
  bad_bytes : (fault : FormFault) → Begins (λ encoding. RefusesDecoderInstruction encoding fault) rest
      → form_fault_of e ≡ Some fault
      → left ≡ rest → StopsHearing t rest left e
  bad_instruction : (encoding : List ℕ) (r : DecoderInstruction) (refusal : TableRefusal) → rest ≡ encoding ++ left
      → SpellsDecoderInstruction encoding r
      → apply_decoder_instruction t r ≡ Err refusal → refusal_of e ≡ Some refusal → StopsHearing t rest left e

-- an instruction is applied, or none is whole, or it is not applied
abbrev pub HearsNext : Table → Table → List ℕ → List ℕ → Result Bool EncoderError → Type 0
HearsNext old new rest left r =
    TakesNextOf decoder_instruction_form apply_decoder_instruction StopsHearing old new rest left r

-- ---- all whole instructions

-- after those that were applied none is whole, or one is not applied
abbrev pub EndsHearing : Table → List ℕ → List ℕ → Result ⊤ EncoderError → Type 0
EndsHearing t rest left r = EndsTakingOf decoder_instruction_form StopsHearing t rest left r

-- the instructions at the front of the bytes are taken, each with what it makes of the table
abbrev pub Hears : Table → Table → List ℕ → List ℕ → Result ⊤ EncoderError → Type 0
Hears old new bytes left r =
    TakesAllOf decoder_instruction_form apply_decoder_instruction old new bytes
    (λ front rest. EndsHearing new rest left r)

-- ---- a capacity

-- the capacity is set and its instruction written; or it is refused, by the table as the definition refuses it, or for
-- memory if the definition takes it, and then nothing changes and nothing is written
abbrev pub SetsCapacity : ℕ → Table → Table → List ℕ → List ℕ → Result ⊤ EncoderError → Type 0
SetsCapacity size old new written_old written_new (Ok done) =
    (with_capacity old size ≡ Ok new) × (written_new ≡ written_old ++ written_encoder_instruction (SetCapacity size))
SetsCapacity size old new written_old written_new (Err Memory) =
    IsOk (with_capacity old size) × (new ≡ old) × (written_new ≡ written_old)
SetsCapacity size old new written_old written_new (Err e) =
    IsRefusedFor (with_capacity old size) (refusal_of e) × (new ≡ old) × (written_new ≡ written_old)
