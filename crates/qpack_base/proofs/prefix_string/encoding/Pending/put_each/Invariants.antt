use Rattle.std.proofs.Common.{◌≡◌, ◌+◌, ◌*◌, ◌<◌, ◌++◌, length, take, vec_len, vec_capacity}
use Rattle.qpack_spec.specs.Huffman.{bits_of, bits_of_text}
use Rattle.qpack_base.specs.WrittenPayloads.{HasAdded}
use Rattle.qpack_base.proofs.prefix_string.encoding.Pending.put_each.Given as goal

abbrev pub invariant-loop-byte : goal.invariant-loop-byte
invariant-loop-byte g l = record {
  added : HasAdded (bits_of l.fn.self.count l.fn.self.bits ++ bits_of_text (take l.byte-index l.text)) l.pending.count
      l.pending.bits l.initial.buf.items l.buf.items;
  few : l.pending.count < 32;
  len : 8 * vec_len l.buf + l.pending.count
      ≡ 8 * vec_len l.initial.buf + l.fn.self.count + length (bits_of_text (take l.byte-index l.text));
  capacity : vec_capacity l.buf ≡ vec_capacity l.initial.buf;
}
