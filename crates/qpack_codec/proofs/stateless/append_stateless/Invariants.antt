use Rattle.std.proofs.Common.{◌≡◌, ◌≤◌, ◌++◌, vec_capacity}
use Rattle.qpack_spec.specs.Field.{total_size}
use Rattle.qpack_spec.specs.BlockReading.{written_block}
use Rattle.qpack_spec.specs.Stateless.{stateless_block, saturated_size}
use Rattle.qpack_base.specs.HeaderFields.{fields_behind}
use Rattle.qpack_codec.proofs.stateless.append_stateless.Given as goal

abbrev pub invariant-loop-field : goal.invariant-loop-field
invariant-loop-field g l = record {
  written : l.block.items ≡ l.fn.block.items ++ written_block (stateless_block (fields_behind l.yielded));
  size : l.size ≡ saturated_size (total_size (fields_behind l.yielded));
  capacity : vec_capacity l.fn.block ≤ vec_capacity l.block;
}
