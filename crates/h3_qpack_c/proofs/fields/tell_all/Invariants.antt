use Rattle.std.proofs.Common.{◌≡◌, map, take}
use Rattle.h3_qpack_c.specs.Crossing.{written_over, told_of_field}
use Rattle.h3_qpack_c.proofs.fields.tell_all.Given as goal

abbrev pub invariant-loop-index : goal.invariant-loop-index
invariant-loop-index l = l.told ≡ written_over (map told_of_field (take l.index l.section.fields)) l.fn.told
