use Rattle.std.proofs.Common.{◌≡◌, ℕ, List, refl}
use Rattle.std.specs.Prelude.{true}
use Rattle.qpack_spec.specs.Instruction.{encoder_instruction_form, decoder_instruction_form}
use Rattle.qpack_rules.specs.Session.{is_consumed}
use Rattle.qpack_spec.specs.Table.{Table, apply_encoder_instruction, apply_decoder_instruction}
use Rattle.qpack_codec.specs.Hearing as hearing
use Rattle.qpack_codec.specs.Hearing.{StopsHearing}
use Rattle.qpack_codec.specs.Receiving.{Stops, refusal_of}
use Rattle.qpack_codec.specs.Sections.{form_fault_of}
use Rattle.qpack_codec.specs.declared.error.DecoderError.{DecoderError}
use Rattle.qpack_codec.specs.declared.error.DecoderError.TheVariants.{Memory}
use Rattle.qpack_codec.specs.declared.error.EncoderError.{EncoderError}
use Rattle.qpack_codec.specs.declared.error.EncoderError.TheVariants.{Memory as EncoderMemory}
use Rattle.qpack_codec.proofs.Pieces.{Halts, any_pieces}
use Rattle.qpack_codec.proofs.laws.pieces_change_nothing.Goals as goal

halts : (t : Table) (at left : List ℕ) (e : DecoderError) → Stops t at left e → (e ≡ Memory → ⊥)
    → Halts encoder_instruction_form apply_encoder_instruction form_fault_of refusal_of is_consumed t at left e
halts t at left e (Stops.no_memory asks is same) ample = absurd (ample is)
halts t at left e (Stops.bad_bytes fault b f same) ample = Halts.bad_bytes fault b f same
halts t at left e (Stops.bad_instruction encoding more i refusal cut s a f same) ample =
    Halts.bad_instruction encoding more i refusal cut s a f same

halts_hearing : (t : Table) (at left : List ℕ) (e : EncoderError) → StopsHearing t at left e → (e ≡ EncoderMemory → ⊥)
    → Halts decoder_instruction_form apply_decoder_instruction hearing.form_fault_of hearing.refusal_of (λ r. true) t at left e
halts_hearing t at left e (StopsHearing.bad_bytes fault b f same) ample = Halts.bad_bytes fault b f same
halts_hearing t at left e (StopsHearing.bad_instruction encoding i refusal cut s a f) ample =
    Halts.bad_instruction encoding left i refusal cut s a f refl

pub returns-clause-encoder_stream : goal.returns-clause-encoder_stream
returns-clause-encoder_stream c =
    any_pieces encoder_instruction_form apply_encoder_instruction form_fault_of refusal_of is_consumed Stops Memory halts

pub returns-clause-decoder_stream : goal.returns-clause-decoder_stream
returns-clause-decoder_stream c =
    any_pieces decoder_instruction_form apply_decoder_instruction hearing.form_fault_of hearing.refusal_of (λ r. true)
    StopsHearing EncoderMemory halts_hearing
