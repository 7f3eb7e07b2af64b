use Rattle.std.proofs.Common.{◌≡◌, take}
use Rattle.qpack_spec.specs.Reading.{greatest_of}
use Rattle.qpack_table.proofs.dynamic.block.greatest_in.Given as goal

abbrev pub invariant-loop-number : goal.invariant-loop-number
invariant-loop-number l = l.greatest ≡ greatest_of (take l.number-index l.numbers)
