use Rattle.std.proofs.Common.{drop}
use Rattle.qpack_table.proofs.Marks.{Lowered}
use Rattle.qpack_table.proofs.dynamic.block.lower_uses.Given as goal

abbrev pub invariant-loop-absolute : goal.invariant-loop-absolute
invariant-loop-absolute g l =
    Lowered l.dropped l.initial.entries.items l.entries.items (drop l.absolute-index l.references) l.references
