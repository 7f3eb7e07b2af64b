use Rattle.qpack_spec.proofs.Integers.{reads_spellings, reads_faults}
use Rattle.qpack_spec.proofs.integer.reading_integers_is_the_relation.Goals as goal

pub returns-clause-spellings : goal.returns-clause-spellings
returns-clause-spellings c = reads_spellings

pub returns-clause-faults : goal.returns-clause-faults
returns-clause-faults c = reads_faults
