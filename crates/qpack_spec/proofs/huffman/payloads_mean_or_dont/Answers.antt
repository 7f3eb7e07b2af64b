use Rattle.qpack_spec.proofs.WrittenPayloads.{means_or_not, not_both, one_fault}
use Rattle.qpack_spec.proofs.huffman.payloads_mean_or_dont.Goals as goal

pub returns-clause-either : goal.returns-clause-either
returns-clause-either c = means_or_not

pub returns-clause-apart : goal.returns-clause-apart
returns-clause-apart c = not_both

pub returns-clause-one_fault : goal.returns-clause-one_fault
returns-clause-one_fault c = one_fault
