use Rattle.std.proofs.Common.{drop}
use Rattle.qpack_table.proofs.Marks.{Cleared}
use Rattle.qpack_table.proofs.dynamic.block.clear_references.Given as goal

abbrev pub invariant-loop-absolute : goal.invariant-loop-absolute
invariant-loop-absolute g l =
    Cleared l.dropped l.initial.entries.items l.entries.items (drop l.absolute-index l.references) l.references
