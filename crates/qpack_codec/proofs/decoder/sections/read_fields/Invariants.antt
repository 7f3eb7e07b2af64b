use Rattle.std.proofs.Common.{◌≡◌, ℕ, ◌≤◌, length}
use Rattle.qpack_spec.specs.Field.{total_size}
use Rattle.qpack_spec.specs.BlockReading.{fields_at, fields_in_bytes}
use Rattle.qpack_spec.specs.Stateless.{saturated_size}
use Rattle.qpack_spec.specs.Table.{window}
use Rattle.qpack_codec.specs.Stateless.{fields_in}
use Rattle.qpack_wire.proofs.Asking.{HasBegun}
use Rattle.qpack_codec.proofs.ReadSections.{with_front}
use Rattle.qpack_codec.proofs.decoder.sections.read_fields.Given as goal

abbrev pub invariant-loop-alloc : goal.invariant-loop-alloc
invariant-loop-alloc g l = record {
  lines :
      (k : ℕ) × (length l.buf.rest ≤ k)
      × (with_front (fields_in l.fields.items) (fields_at k (window l.fn.table.table.now) l.fn.table.base
      l.buf.rest)
      ≡ fields_in_bytes (window l.fn.table.table.now) l.fn.table.base l.fn.buf.rest);
  size : l.mem_size ≡ saturated_size (total_size (fields_in l.fields.items));
  begun : HasBegun l.fn.buf.rest l.buf.rest;
  total : l.buf.total ≡ l.fn.buf.total;
}

abbrev pub decreases-loop-alloc : goal.decreases-loop-alloc
decreases-loop-alloc g l = length l.buf.rest
