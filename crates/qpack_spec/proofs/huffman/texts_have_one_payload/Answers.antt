use Rattle.qpack_spec.proofs.WrittenPayloads.{one_payload, written_means}
use Rattle.qpack_spec.proofs.huffman.texts_have_one_payload.Goals as goal

pub returns-clause-one : goal.returns-clause-one
returns-clause-one c = one_payload

pub returns-clause-written : goal.returns-clause-written
returns-clause-written c = written_means
