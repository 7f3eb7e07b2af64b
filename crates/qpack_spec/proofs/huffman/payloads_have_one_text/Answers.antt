use Rattle.qpack_spec.proofs.WrittenPayloads.{one_text}
use Rattle.qpack_spec.proofs.huffman.payloads_have_one_text.Goals as goal

pub returns : goal.returns
returns c = one_text
