use Rattle.qpack_spec.proofs.WrittenForms.{lines_spelled, instructions_spelled, decoder_instructions_spelled}
use Rattle.qpack_spec.proofs.form.written_forms_are_spellings.Goals as goal

pub returns-clause-lines : goal.returns-clause-lines
returns-clause-lines c = lines_spelled

pub returns-clause-instructions : goal.returns-clause-instructions
returns-clause-instructions c = instructions_spelled

pub returns-clause-decoder_instructions : goal.returns-clause-decoder_instructions
returns-clause-decoder_instructions c = decoder_instructions_spelled
