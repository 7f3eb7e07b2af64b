use Rattle.std.proofs.Common.{◌≡◌, ◌-◌, ◌≤◌, vec_len, vec_capacity}
use Rattle.qpack_spec.specs.Huffman.{bits_of_bytes}
use Rattle.qpack_base.specs.Payloads.{bits_ahead, IsAhead, FitsAhead, PassesCodes}
use Rattle.qpack_base.proofs.prefix_string.ahead.push_codes.Given as goal

abbrev pub invariant-loop-left : goal.invariant-loop-left
invariant-loop-left g l = record {
  ahead : IsAhead l.ahead;
  fits : FitsAhead l.ahead l.text;
  passes : PassesCodes (bits_of_bytes l.payload) (bits_ahead l.ahead) l.fn.text.items l.text.items;
  len : vec_len l.fn.text ≤ vec_len l.text;
  capacity : vec_capacity l.text ≡ vec_capacity l.fn.text;
}

abbrev pub decreases-loop-left : goal.decreases-loop-left
decreases-loop-left g l = vec_capacity l.text - vec_len l.text
