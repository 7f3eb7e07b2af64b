use Rattle.qpack_spec.specs.Instruction.{encoder_instruction_form}
use Rattle.qpack_spec.proofs.FormLaws.{reads_forms, reads_form_refusals, reads_form_truncation}
use Rattle.qpack_spec.proofs.form.reading_instructions_is_the_relation.Goals as goal

pub returns-clause-spellings : goal.returns-clause-spellings
returns-clause-spellings c = reads_forms encoder_instruction_form

pub returns-clause-refusals : goal.returns-clause-refusals
returns-clause-refusals c = reads_form_refusals encoder_instruction_form

pub returns-clause-truncation : goal.returns-clause-truncation
returns-clause-truncation c = reads_form_truncation encoder_instruction_form
