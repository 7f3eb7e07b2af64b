use Rattle.std.proofs.Common.{◌≡◌, ℕ, ◌+◌, ◌*◌, ◌≤◌, List, length}
use Rattle.qpack_spec.specs.Huffman.{bits_of_bytes, with_front, text_of_bits}
use Rattle.qpack_base.proofs.prefix_string.text_len.Given as goal

abbrev pub invariant-loop-byte : goal.invariant-loop-byte
invariant-loop-byte l = record {
  text :
      (given : List ℕ) × (l.len ≡ length given)
      × (with_front given (text_of_bits l.byte-iterator) ≡ text_of_bits (bits_of_bytes l.payload));
  bits : 5 * l.len + length l.byte-iterator ≤ 8 * length l.payload;
}
