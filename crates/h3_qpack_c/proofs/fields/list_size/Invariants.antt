use Rattle.std.proofs.Common.{◌≡◌, ◌-◌, ◌^◌, map, min, take}
use Rattle.qpack_spec.specs.Field.{fields_of_lines, total_size}
use Rattle.h3_qpack_c.specs.Crossing.{line_of_lent}
use Rattle.h3_qpack_c.proofs.fields.list_size.Given as goal

abbrev pub invariant-loop-field : goal.invariant-loop-field
invariant-loop-field l =
    l.size ≡ min (total_size (fields_of_lines (map line_of_lent (take l.field-index l.fields)))) (2 ^ 64 - 1)
