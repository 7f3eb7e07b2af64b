use Rattle.std.proofs.Common.{◌≡◌, ◌+◌, ◌*◌, ◌≤◌, length}
use Rattle.qpack_spec.specs.Huffman.{bits_of_text}
use Rattle.qpack_base.proofs.prefix_string.encoding.payload_len.Given as goal

abbrev pub invariant-loop-four : goal.invariant-loop-four
invariant-loop-four l = record {
  sum : l.bits + length (bits_of_text l.rest) ≡ length (bits_of_text l.text);
  most : l.bits + 30 * length l.rest ≤ 30 * length l.text;
}

abbrev pub decreases-loop-four : goal.decreases-loop-four
decreases-loop-four l = length l.rest
