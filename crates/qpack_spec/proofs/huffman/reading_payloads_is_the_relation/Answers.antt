use Rattle.qpack_spec.proofs.WrittenPayloads.{reads_texts, reads_faults}
use Rattle.qpack_spec.proofs.huffman.reading_payloads_is_the_relation.Goals as goal

pub returns-clause-texts : goal.returns-clause-texts
returns-clause-texts c = reads_texts

pub returns-clause-faults : goal.returns-clause-faults
returns-clause-faults c = reads_faults
