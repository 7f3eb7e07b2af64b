use Rattle.qpack_spec.specs.Line.{line_form}
use Rattle.qpack_spec.specs.Instruction.{encoder_instruction_form, decoder_instruction_form}
use Rattle.qpack_spec.proofs.FormLaws.{no_form_begins}
use Rattle.qpack_spec.proofs.form.no_spelling_begins_another.Goals as goal

pub returns-clause-lines : goal.returns-clause-lines
returns-clause-lines c = no_form_begins line_form

pub returns-clause-instructions : goal.returns-clause-instructions
returns-clause-instructions c = no_form_begins encoder_instruction_form

pub returns-clause-decoder_instructions : goal.returns-clause-decoder_instructions
returns-clause-decoder_instructions c = no_form_begins decoder_instruction_form
