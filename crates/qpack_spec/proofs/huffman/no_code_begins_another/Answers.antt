use Rattle.qpack_spec.proofs.WrittenPayloads.{no_code_begins, no_code_eos}
use Rattle.qpack_spec.proofs.huffman.no_code_begins_another.Goals as goal

pub returns-clause-codes : goal.returns-clause-codes
returns-clause-codes c = no_code_begins

pub returns-clause-eos : goal.returns-clause-eos
returns-clause-eos c = no_code_eos
