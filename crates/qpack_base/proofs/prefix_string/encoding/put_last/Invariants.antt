use Rattle.std.proofs.Common.{◌≡◌, ◌+◌, ◌/◌, ◌%◌, ◌≤◌, vec_len, vec_capacity}
use Rattle.qpack_spec.specs.Huffman.{bits_of}
use Rattle.qpack_base.specs.WrittenPayloads.{HasAdded}
use Rattle.qpack_base.proofs.prefix_string.encoding.put_last.Given as goal

abbrev pub invariant-loop-left : goal.invariant-loop-left
invariant-loop-left g l = record {
  added : HasAdded (bits_of (l.count + l.ones) l.filled) l.left l.filled l.initial.buf.items l.buf.items;
  whole : l.left % 8 ≡ 0;
  most : l.left ≤ l.count + l.ones;
  room : vec_len l.buf + l.left / 8 ≤ vec_capacity l.buf;
  capacity : vec_capacity l.buf ≡ vec_capacity l.initial.buf;
}

abbrev pub decreases-loop-left : goal.decreases-loop-left
decreases-loop-left g l = l.left
