use Rattle.std.proofs.Common.{◌≡◌, ◌*◌, ◌≤◌, length, take}
use Rattle.qpack_spec.specs.Huffman.{bits_of_text}
use Rattle.qpack_base.proofs.prefix_string.encoding.bits_of_few.Given as goal

abbrev pub invariant-loop-byte : goal.invariant-loop-byte
invariant-loop-byte l = record {
  sum : l.bits ≡ length (bits_of_text (take l.byte-index l.text));
  most : l.bits ≤ 30 * l.byte-index;
}
