use Rattle.qpack_spec.specs.Instruction.{encoder_instruction_form, decoder_instruction_form}
use Rattle.qpack_spec.proofs.Cuttings.{streams_read}
use Rattle.qpack_spec.proofs.stream.streams_have_one_reading.Goals as goal

pub returns-clause-instructions : goal.returns-clause-instructions
returns-clause-instructions c = streams_read encoder_instruction_form

pub returns-clause-decoder_instructions : goal.returns-clause-decoder_instructions
returns-clause-decoder_instructions c = streams_read decoder_instruction_form
