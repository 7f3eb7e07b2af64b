use Rattle.qpack_spec.specs.Line.{line_form}
use Rattle.qpack_spec.specs.Instruction.{encoder_instruction_form, decoder_instruction_form}
use Rattle.qpack_spec.proofs.FormLaws.{one_form}
use Rattle.qpack_spec.proofs.form.spellings_have_one_value.Goals as goal

pub returns-clause-lines : goal.returns-clause-lines
returns-clause-lines c = one_form line_form

pub returns-clause-instructions : goal.returns-clause-instructions
returns-clause-instructions c = one_form encoder_instruction_form

pub returns-clause-decoder_instructions : goal.returns-clause-decoder_instructions
returns-clause-decoder_instructions c = one_form decoder_instruction_form
