use Rattle.std.proofs.Common.{ap, ◌∙◌, map, length}
use Rattle.qpack_spec.specs.Table.{Table, insert_count}
use Rattle.qpack_spec.specs.Window.{maximum_capacity}
use Rattle.qpack_wire.specs.BlockLines.{line_of}
use Rattle.qpk.proofs.PrintedBlocks.{prefix_read, printed}
use Rattle.qpk.proofs.inspect.blocks.push_read_lines.Goals as goal

pub returns : goal.returns
returns c =
    let inserted = c.total_inserted.ensures ∙ ap (λ (t : Table). insert_count t) c.table-table.ensures in
    let most = c.agreed_max.ensures.exact
    ∙ ap (λ (t : Table). maximum_capacity t.agreed_max t.capacity) c.table-table.ensures in
    let read = c.in-Ok.ensures in
    let reads = rw (inserted, most) at read in (
      (c.in-Ok.required, c.in-Ok.base),
      prefix_read _ c.in-Ok.required c.in-Ok.base reads,
      printed (c.in-Ok.required, c.in-Ok.base) (map line_of c.args.lines.now) c.args.decoded.now.fields.items
          _ c.args.decoded.now.mem_size _ _ _ _
          (ap length c.as_slice-count.ensures.value) c.requires c.in_ok-push_numbers_line.ensures
          c.in_ok-push_field_lines.ensures
          c.in_ok-push_numbers_line-2.ensures,
    )
