use Rattle.std.proofs.Common.{◌≡◌, ◌≤◌, ◌++◌, map, take, vec_len, vec_capacity}
use Rattle.qpack_codec.proofs.MarkedFields.{written_stateless}
use Rattle.qpack_base.specs.Codings.{coding_of}
use Rattle.qpack_codec.proofs.stateless.field_lines.append_section.Given as goal

abbrev pub invariant-loop-field : goal.invariant-loop-field
invariant-loop-field g l = record {
  written : l.block.items ≡ l.fn.block.items
      ++ written_stateless (coding_of l.coding) (map g.H.AsField.line (take l.field-index l.fields));
  capacity : vec_capacity l.fn.block ≤ vec_capacity l.block;
  still : vec_len l.block ≤ vec_capacity l.fn.block → vec_capacity l.block ≡ vec_capacity l.fn.block;
}
