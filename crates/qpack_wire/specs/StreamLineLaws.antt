-- The laws of encoder instructions and decoder instructions as lines of a stream; each stream promises them.
use Rattle.std.specs.Prelude.{ℕ, List}
use Rattle.std.proofs.Common.{ap, inl, inr}
use Rattle.qpack_spec.specs.FormLaws.{EndsForm}
use Rattle.qpack_spec.specs.WrittenLaws.{IsWritableEncoderInstruction, IsWritableDecoderInstruction}
use Rattle.qpack_spec.specs.Instruction.{encoder_instruction_form, decoder_instruction_form, SpellsEncoderInstruction}
use Rattle.qpack_spec.specs.Instruction.{SpellsDecoderInstruction}
use Rattle.qpack_spec.specs.Instruction.{written_encoder_instruction, written_decoder_instruction}
use Rattle.qpack_spec.specs.Text.{Always}
use Rattle.qpack_spec.proofs.FormLaws.{one_form, no_form_begins, form_again}
use Rattle.qpack_spec.proofs.WrittenForms.{instructions_spelled, decoder_instructions_spelled}
use Rattle.qpack_wire.specs.Alone.{Unreadable, Foreign, or_unreadable}
use Rattle.qpack_wire.specs.StreamLines.{RefusesEncoderLine, RefusesDecoderLine, encoder_instruction_at}
use Rattle.qpack_wire.specs.StreamLines.{decoder_instruction_at}
use Rattle.qpack_wire.specs.WireLaws.{WrittenIsSpelled, WrittenIsReadBack, SpellingsHaveOneInstruction, EndsInstruction}
use Rattle.qpack_wire.specs.WireLaws.{NoInstructionBeginsAnother}

instruction_ends : (encoding : List ℕ) → EndsInstruction SpellsEncoderInstruction RefusesEncoderLine encoding
    → EndsForm encoder_instruction_form encoding
instruction_ends encoding (inl p) = inl p
instruction_ends encoding (inr (Unreadable fault, r)) = inr (fault, r)
instruction_ends encoding (inr (Foreign bits, r)) = absurd r

decoder_instruction_ends : (encoding : List ℕ) → EndsInstruction SpellsDecoderInstruction RefusesDecoderLine encoding
    → EndsForm decoder_instruction_form encoding
decoder_instruction_ends encoding (inl p) = inl p
decoder_instruction_ends encoding (inr (Unreadable fault, r)) = inr (fault, r)
decoder_instruction_ends encoding (inr (Foreign bits, r)) = absurd r

-- encoder instructions

pub written_instructions_spelled : WrittenIsSpelled SpellsEncoderInstruction IsWritableEncoderInstruction
    written_encoder_instruction
written_instructions_spelled l h = instructions_spelled Always l h

pub written_instructions_read_back : WrittenIsReadBack encoder_instruction_at IsWritableEncoderInstruction
    written_encoder_instruction
written_instructions_read_back l rest h =
    ap or_unreadable (form_again encoder_instruction_form (written_encoder_instruction l) rest l
    (instructions_spelled Always l h))

pub spellings_have_one_instruction : SpellingsHaveOneInstruction SpellsEncoderInstruction
spellings_have_one_instruction = one_form encoder_instruction_form

pub no_instruction_begins_another : NoInstructionBeginsAnother SpellsEncoderInstruction RefusesEncoderLine
no_instruction_begins_another a b x y p q e =
    no_form_begins encoder_instruction_form a b x y (instruction_ends a p) (instruction_ends b q) e

-- decoder instructions

pub written_decoder_instructions_spelled : WrittenIsSpelled SpellsDecoderInstruction IsWritableDecoderInstruction
    written_decoder_instruction
written_decoder_instructions_spelled l h = decoder_instructions_spelled l h

pub written_decoder_instructions_read_back : WrittenIsReadBack decoder_instruction_at IsWritableDecoderInstruction
    written_decoder_instruction
written_decoder_instructions_read_back l rest h =
    ap or_unreadable (form_again decoder_instruction_form (written_decoder_instruction l) rest l
    (decoder_instructions_spelled l h))

pub spellings_have_one_decoder_instruction : SpellingsHaveOneInstruction SpellsDecoderInstruction
spellings_have_one_decoder_instruction = one_form decoder_instruction_form

pub no_decoder_instruction_begins_another : NoInstructionBeginsAnother SpellsDecoderInstruction RefusesDecoderLine
no_decoder_instruction_begins_another a b x y p q e = no_form_begins decoder_instruction_form a b x y
    (decoder_instruction_ends a p) (decoder_instruction_ends b q) e
