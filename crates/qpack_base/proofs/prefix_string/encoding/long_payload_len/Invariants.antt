use Rattle.qpack_base.proofs.WrittenCodes.{IsCounted}
use Rattle.qpack_base.proofs.prefix_string.encoding.long_payload_len.Given as goal

abbrev pub invariant-loop-byte : goal.invariant-loop-byte
invariant-loop-byte l = IsCounted l.text l.byte-index l.bytes l.bits
