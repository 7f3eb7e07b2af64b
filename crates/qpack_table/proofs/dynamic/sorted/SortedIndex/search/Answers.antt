use Rattle.std.proofs.Common.{ℕ, ◌+◌, ◌-◌, ◌/◌, ◌<◌, length, sym, subst, ◌∙◌, arith, Bool}
use Rattle.qpack_base.specs.HeaderFields.{line_of}
use Rattle.qpack_table.specs.Tables.{live_fields}
use Rattle.qpack_table.proofs.Halvings.{counts_more}
use Rattle.qpack_table.proofs.SortedSearches.{Halving, goes_higher, goes_lower, meets_first, meets_last, ends_nowhere}
use Rattle.qpack_table.proofs.SortedSearches.{live_read, entry_order}
use Rattle.qpack_table.proofs.dynamic.sorted.SortedIndex.search.Goals as goal

pub overflow_sub-index : goal.overflow_sub-index
overflow_sub-index g c =
    let known = c.loop-low.invariant in
    let live = live_read _ _ _ _ c.requires.sorted.2
    (c.loop-low.low + (c.loop-low.high - c.loop-low.low) / 2) c.index.result.now
    (omega (arith, c.loop-low-test.true, known.parted.within)) c.index.ensures in
    omega (arith, live.0)

pub overflow_sub-index-in-loop-low : goal.overflow_sub-index-in-loop-low
overflow_sub-index-in-loop-low g c =
    let known = c.loop-low.invariant in
    let live = live_read _ _ _ _ c.requires.sorted.2
    (c.loop-low.low + (c.loop-low.high - c.loop-low.low) / 2) c.index.result.now
    (omega (arith, c.loop-low-test.true, known.parted.within)) c.index.ensures in
    omega (arith, live.0)

pub index-entry-requires : goal.index-entry-requires
index-entry-requires g c =
    let known = c.loop-low.invariant in
    let live = live_read _ _ _ _ c.requires.sorted.2
    (c.loop-low.low + (c.loop-low.high - c.loop-low.low) / 2) c.index.result.now
    (omega (arith, c.loop-low-test.true, known.parted.within)) c.index.ensures in
    omega (arith, live.0, live.1, c.requires.sorted.1)

pub loop-low-preserved-in-Less : goal.loop-low-preserved-in-Less
loop-low-preserved-in-Less g c =
    let known = c.loop-low.invariant in
    let middle : ℕ = c.loop-low.low + (c.loop-low.high - c.loop-low.low) / 2 in
    let within : middle < length c.args.self.now.sorted.items =
    omega (arith, c.loop-low-test.true, known.parted.within) in
    let live = live_read _ _ _ _ c.requires.sorted.2 middle c.index.result.now within c.index.ensures in
    record {
      parted = goes_higher _ _ _ _ _ c.requires.sorted.2 _ _ _ _ middle _ known.parted (omega arith)
          (omega (arith, c.loop-low-test.true)) c.index.result.now c.index.ensures
          (sym (entry_order c.args.part c.args.dropped c.args.entries.now.items c.index.result.now
          c.index-entry.result.now (line_of c.args.sought.now).field live c.requires.sorted.1 c.index-entry.ensures)
          ∙ sym c.compare_entry.ensures.order ∙ c.in-Less.is);
      counted = counts_more _ _ _ _ _ _ known.counted (omega (arith, c.loop-low-test.true))
          (omega (arith, c.loop-low-test.true)) (omega (arith, c.compare_entry.ensures.raised))
          c.compare_entry.ensures.grows;
    }

pub loop-low-preserved-in-Greater : goal.loop-low-preserved-in-Greater
loop-low-preserved-in-Greater g c =
    let known = c.loop-low.invariant in
    let middle : ℕ = c.loop-low.low + (c.loop-low.high - c.loop-low.low) / 2 in
    let within : middle < length c.args.self.now.sorted.items =
    omega (arith, c.loop-low-test.true, known.parted.within) in
    let live = live_read _ _ _ _ c.requires.sorted.2 middle c.index.result.now within c.index.ensures in
    record {
      parted = goes_lower _ _ _ _ _ c.requires.sorted.2 _ _ _ _ middle _ known.parted (omega arith)
          (omega (arith, c.loop-low-test.true)) c.index.result.now c.index.ensures
          (sym (entry_order c.args.part c.args.dropped c.args.entries.now.items c.index.result.now
          c.index-entry.result.now (line_of c.args.sought.now).field live c.requires.sorted.1 c.index-entry.ensures)
          ∙ sym c.compare_entry.ensures.order ∙ c.in-Greater.is);
      counted = counts_more _ _ _ _ _ _ known.counted (omega (arith, c.loop-low-test.true))
          (omega (arith, c.loop-low-test.true)) (omega (arith, c.compare_entry.ensures.raised))
          c.compare_entry.ensures.grows;
    }

pub loop-low-preserved-in-First : goal.loop-low-preserved-in-First
loop-low-preserved-in-First g c =
    let known = c.loop-low.invariant in
    let middle : ℕ = c.loop-low.low + (c.loop-low.high - c.loop-low.low) / 2 in
    let within : middle < length c.args.self.now.sorted.items =
    omega (arith, c.loop-low-test.true, known.parted.within) in
    let live = live_read _ _ _ _ c.requires.sorted.2 middle c.index.result.now within c.index.ensures in
    record {
      parted = meets_first _ _ _ _ _ c.requires.sorted.2 _ _ _ _ middle _ known.parted (omega arith)
          (omega (arith, c.loop-low-test.true)) c.index.result.now c.index.ensures c.in-First.is
          (sym (entry_order c.args.part c.args.dropped c.args.entries.now.items c.index.result.now
          c.index-entry.result.now (line_of c.args.sought.now).field live c.requires.sorted.1 c.index-entry.ensures)
          ∙ sym c.compare_entry.ensures.order ∙ c.in-Equal.is);
      counted = counts_more _ _ _ _ _ _ known.counted (omega (arith, c.loop-low-test.true))
          (omega (arith, c.loop-low-test.true)) (omega (arith, c.compare_entry.ensures.raised))
          c.compare_entry.ensures.grows;
    }

pub loop-low-preserved : goal.loop-low-preserved
loop-low-preserved g c =
    let known = c.loop-low.invariant in
    let middle : ℕ = c.loop-low.low + (c.loop-low.high - c.loop-low.low) / 2 in
    let within : middle < length c.args.self.now.sorted.items =
    omega (arith, c.loop-low-test.true, known.parted.within) in
    let live = live_read _ _ _ _ c.requires.sorted.2 middle c.index.result.now within c.index.ensures in
    record {
      parted = meets_last _ _ _ _ _ c.requires.sorted.2 _ _ _ _ middle _ known.parted (omega arith)
          (omega (arith, c.loop-low-test.true)) c.index.result.now c.index.ensures c.in-Last.is
          (sym (entry_order c.args.part c.args.dropped c.args.entries.now.items c.index.result.now
          c.index-entry.result.now (line_of c.args.sought.now).field live c.requires.sorted.1 c.index-entry.ensures)
          ∙ sym c.compare_entry.ensures.order ∙ c.in-Equal.is);
      counted = counts_more _ _ _ _ _ _ known.counted (omega (arith, c.loop-low-test.true))
          (omega (arith, c.loop-low-test.true)) (omega (arith, c.compare_entry.ensures.raised))
          c.compare_entry.ensures.grows;
    }

pub returns-else-found-clause-end : goal.returns-else-found-clause-end
returns-else-found-clause-end g c =
    let known = c.loop-low.invariant in
    ends_nowhere _ _ _ _ _ c.requires.sorted.2 _ _ c.loop-low.low c.loop-low.high
    (subst (λ (b : Bool). Halving c.args.part c.args.dropped (live_fields c.args.entries.now.items)
    c.args.self.now.sorted.items (line_of c.args.sought.now).field c.args.end c.loop-low.low c.loop-low.high b)
    c.if-found.false known.parted) (omega (arith, c.loop-low-test.false))
