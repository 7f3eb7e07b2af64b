use Rattle.qpack_spec.specs.Instruction.{encoder_instruction_form, decoder_instruction_form}
use Rattle.qpack_spec.proofs.Cuttings.{pieces_hold}
use Rattle.qpack_spec.proofs.stream.pieces_hold_fronts.Goals as goal

pub returns-clause-instructions : goal.returns-clause-instructions
returns-clause-instructions c = pieces_hold encoder_instruction_form

pub returns-clause-decoder_instructions : goal.returns-clause-decoder_instructions
returns-clause-decoder_instructions c = pieces_hold decoder_instruction_form
