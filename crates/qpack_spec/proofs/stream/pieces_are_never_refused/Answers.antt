use Rattle.qpack_spec.specs.Instruction.{encoder_instruction_form, decoder_instruction_form}
use Rattle.qpack_spec.proofs.Cuttings.{pieces_lawful}
use Rattle.qpack_spec.proofs.stream.pieces_are_never_refused.Goals as goal

pub returns-clause-instructions : goal.returns-clause-instructions
returns-clause-instructions c = pieces_lawful encoder_instruction_form

pub returns-clause-decoder_instructions : goal.returns-clause-decoder_instructions
returns-clause-decoder_instructions c = pieces_lawful decoder_instruction_form
