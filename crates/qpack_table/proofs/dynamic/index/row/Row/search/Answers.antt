use Rattle.std.proofs.Common.{ℕ, ◌+◌, ◌-◌, ◌/◌, ◌<◌, length, sym, ◌∙◌, arith}
use Rattle.qpack_table.specs.Rows.{key_of}
use Rattle.qpack_table.proofs.Halvings.{counts_more}
use Rattle.qpack_table.proofs.RowSearches.{slot_read, searching_lower, searching_higher}
use Rattle.qpack_table.proofs.dynamic.index.row.Row.search.Goals as goal

pub compare-requires : goal.compare-requires
compare-requires g c =
    let known = c.loop-low.invariant in
    let middle : ℕ = c.loop-low.low + (c.loop-low.high - c.loop-low.low) / 2 in
    let within : middle < length c.args.self.now.slots.items =
    omega (arith, c.loop-low-test.true, known.parted.within) in
    slot_read _ _ _ _ c.requires (key_of c.args.sought.now) middle c.index.result.now within c.index.ensures

pub loop-low-preserved-in-Less : goal.loop-low-preserved-in-Less
loop-low-preserved-in-Less g c =
    let known = c.loop-low.invariant in
    let middle : ℕ = c.loop-low.low + (c.loop-low.high - c.loop-low.low) / 2 in
    record {
      parted = searching_higher _ _ _ _ c.requires _ _ _ middle known.parted (omega arith)
          (omega (arith, c.loop-low-test.true)) c.index.result.now c.index.ensures
          (sym c.compare.ensures.order ∙ c.in-Less.is);
      counted = counts_more _ _ _ _ _ _ known.counted (omega (arith, c.loop-low-test.true))
          (omega (arith, c.loop-low-test.true)) c.compare.ensures.raised c.compare.ensures.grows;
    }

pub loop-low-preserved : goal.loop-low-preserved
loop-low-preserved g c =
    let known = c.loop-low.invariant in
    let middle : ℕ = c.loop-low.low + (c.loop-low.high - c.loop-low.low) / 2 in
    record {
      parted = searching_lower _ _ _ _ c.requires _ _ _ middle known.parted (omega arith)
          (omega (arith, c.loop-low-test.true)) c.index.result.now c.index.ensures
          (sym c.compare.ensures.order ∙ c.in-Greater.is);
      counted = counts_more _ _ _ _ _ _ known.counted (omega (arith, c.loop-low-test.true))
          (omega (arith, c.loop-low-test.true)) c.compare.ensures.raised c.compare.ensures.grows;
    }
