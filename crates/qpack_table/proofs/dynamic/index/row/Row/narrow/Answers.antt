use Rattle.std.proofs.Common.{sym, ◌∙◌, arith}
use Rattle.qpack_table.proofs.RowSearches.{looked_higher, looked_lower}
use Rattle.qpack_table.proofs.dynamic.index.row.Row.narrow.Goals.{in-Less+else-low-high, in-Greater+else-low-high-2}
use Rattle.qpack_table.proofs.dynamic.index.row.Row.narrow.Goals as goal

pub returns-then-low-high : goal.returns-then-low-high
returns-then-low-high g c =
    let known = c.loop.invariant in
    looked_higher _ _ _ _ c.requires _ _ _ c.loop.at known.parted known.from known.to c.index.result.now c.index.ensures
    (sym c.cmp.ensures ∙ c.in-Less.is)

pub returns-then-low-high-2 : goal.returns-then-low-high-2
returns-then-low-high-2 g c =
    let known = c.loop.invariant in
    looked_lower _ _ _ _ c.requires _ _ _ c.loop.at known.parted known.from known.to c.index.result.now c.index.ensures
    (sym c.cmp.ensures ∙ c.in-Greater.is)

pub loop-preserved : goal.loop-preserved
loop-preserved g c =
    let known = c.loop.invariant in
    elim c.match-cmp.branch [
      | in-Less+else-low-high w ↦ record {
        parted = rw w.low-is (rw w.high-is (looked_higher _ _ _ _ c.requires _ _ _ c.loop.at known.parted known.from
            known.to c.index.result.now c.index.ensures (sym c.cmp.ensures ∙ w.in-Less.is)));
        from = omega (arith, w.low-is, w.at-is);
        to = omega (arith, w.at-is, w.high-is, w.if-low-high.false, known.to);
      }
      | in-Greater+else-low-high-2 w ↦ record {
        parted = rw w.low-is (rw w.high-is (looked_lower _ _ _ _ c.requires _ _ _ c.loop.at known.parted known.from
            known.to c.index.result.now c.index.ensures (sym c.cmp.ensures ∙ w.in-Greater.is)));
        from = omega (arith, w.low-is, w.at-is, w.if-low-high-2.false, known.from);
        to = omega (arith, w.at-is, w.high-is, w.if-low-high-2.false, known.from);
      }
    ]
