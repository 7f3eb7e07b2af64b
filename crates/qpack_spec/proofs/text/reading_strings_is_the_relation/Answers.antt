use Rattle.qpack_spec.proofs.Texts.{reads_strings, reads_refusals, reads_truncation}
use Rattle.qpack_spec.proofs.text.reading_strings_is_the_relation.Goals as goal

pub returns-clause-literals : goal.returns-clause-literals
returns-clause-literals c = reads_strings

pub returns-clause-refusals : goal.returns-clause-refusals
returns-clause-refusals c = reads_refusals

pub returns-clause-truncation : goal.returns-clause-truncation
returns-clause-truncation c = reads_truncation
