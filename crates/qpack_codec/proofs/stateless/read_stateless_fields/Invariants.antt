use Rattle.std.proofs.Common.{◌≡◌, ℕ, ◌≤◌, length}
use Rattle.qpack_spec.specs.Field.{total_size}
use Rattle.qpack_spec.specs.Stateless.{stateless_at, saturated_size}
use Rattle.qpack_codec.specs.Stateless.{fields_in}
use Rattle.qpack_codec.proofs.ReadLines.{with_front}
use Rattle.qpack_wire.proofs.Asking.{HasBegun}
use Rattle.qpack_codec.proofs.stateless.read_stateless_fields.Given as goal

abbrev pub invariant-loop-byte : goal.invariant-loop-byte
invariant-loop-byte l = record {
  lines :
      (k : ℕ) × (length l.buf.rest ≤ k)
      × (with_front (fields_in l.fields.items) (stateless_at k l.max_size
      (total_size (fields_in l.fields.items)) l.buf.rest)
      ≡ stateless_at (length l.fn.buf.rest) l.max_size 0 l.fn.buf.rest);
  size : l.mem_size ≡ saturated_size (total_size (fields_in l.fields.items));
  begun : HasBegun l.fn.buf.rest l.buf.rest;
  total : l.buf.total ≡ l.fn.buf.total;
}

abbrev pub decreases-loop-byte : goal.decreases-loop-byte
decreases-loop-byte l = length l.buf.rest
