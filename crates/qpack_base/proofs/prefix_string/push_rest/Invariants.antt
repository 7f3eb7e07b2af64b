use Rattle.std.proofs.Common.{◌≡◌, ◌-◌, ◌≤◌, take, vec_len, vec_capacity}
use Rattle.qpack_spec.specs.Huffman.{with_front, text_of_bits}
use Rattle.qpack_base.specs.Payloads.{HasRoom}
use Rattle.qpack_base.proofs.prefix_string.push_rest.Given as goal

abbrev pub invariant-loop-byte : goal.invariant-loop-byte
invariant-loop-byte g l = record {
  text : with_front l.text.items (text_of_bits l.byte-iterator)
      ≡ with_front l.fn.text.items (text_of_bits l.fn.rest);
  room : HasRoom l.byte-iterator (vec_capacity l.text - vec_len l.text);
  start : l.start ≤ vec_len l.text;
  front : take l.start l.text.items ≡ take l.start l.fn.text.items;
  capacity : vec_capacity l.text ≡ vec_capacity l.fn.text;
}
