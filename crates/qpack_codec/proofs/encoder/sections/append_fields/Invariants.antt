use Rattle.std.proofs.Common.{◌≡◌, ◌≤◌, map, take, vec_capacity}
use Rattle.std.specs.Prelude.{vec_len}
use Rattle.qpack_spec.specs.Field.{fields_of_lines}
use Rattle.qpack_codec.specs.ChosenSections.{AddsAlong}
use Rattle.qpack_codec.specs.Encoding.{GrowsWithin, instructions_room}
use Rattle.qpack_base.specs.Codings.{coding_of}
use Rattle.qpack_codec.proofs.encoder.sections.append_fields.Given as goal

abbrev pub invariant-loop-field : goal.invariant-loop-field
invariant-loop-field g l = record {
  same_table : l.handle.table.ghost_name ≡ l.fn.handle.table.ghost_name;
  stream : l.handle.stream_id ≡ l.fn.handle.stream_id;
  base : l.handle.base ≡ l.fn.handle.base;
  adds : AddsAlong (coding_of l.coding) g.C.Chooses.chooses (map g.H.AsField.line (take l.field-index l.fields))
      (map g.H.AsField.wish (take l.field-index l.fields)) l.fn.handle.table.now l.fn.handle.base
      l.handle.table.now l.fn.chooser l.chooser l.fn.lines.items l.lines.items l.fn.encoder_buf.items l.encoder_buf.items;
  front : take (vec_len l.fn.lines) l.lines.items ≡ l.fn.lines.items;
  capacity : vec_capacity l.fn.lines ≤ vec_capacity l.lines;
  still : vec_len l.lines ≤ vec_capacity l.fn.lines → vec_capacity l.lines ≡ vec_capacity l.fn.lines;
  room : GrowsWithin (instructions_room (fields_of_lines (map g.H.AsField.line (take l.field-index l.fields))))
      l.fn.encoder_buf
      l.encoder_buf;
}
