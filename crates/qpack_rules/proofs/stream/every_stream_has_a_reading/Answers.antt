use Rattle.qpack_spec.specs.Instruction.{encoder_instruction_form, decoder_instruction_form}
use Rattle.qpack_rules.proofs.StreamReadings.{stream_reads}
use Rattle.qpack_rules.proofs.stream.every_stream_has_a_reading.Goals as goal

pub returns-clause-instructions : goal.returns-clause-instructions
returns-clause-instructions c = stream_reads encoder_instruction_form

pub returns-clause-decoder_instructions : goal.returns-clause-decoder_instructions
returns-clause-decoder_instructions c = stream_reads decoder_instruction_form
