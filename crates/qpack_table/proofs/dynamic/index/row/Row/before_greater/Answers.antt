use Rattle.std.proofs.Common.{◌+◌, sym, ◌∙◌, arith}
use Rattle.qpack_table.proofs.RowSearches.{looked_lower}
use Rattle.qpack_table.proofs.dynamic.index.row.Row.before_greater.Goals as goal

pub returns-in-Greater : goal.returns-in-Greater
returns-in-Greater g c = record {
  parted = looked_lower _ _ _ _ c.requires.row _ _ _ (c.args.at + 1) c.requires.parted
      (omega (arith, c.requires.from)) (omega (arith, c.if-at-high.false, c.requires.within)) c.index.result.now
      c.index.ensures (sym c.cmp.ensures ∙ c.in-Greater.is);
}
