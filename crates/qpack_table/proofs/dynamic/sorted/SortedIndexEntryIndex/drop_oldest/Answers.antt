use Rattle.std.proofs.Common.{◌≡◌, ℕ, List, length, ap, subst, sym, rules, tests, nat_lt, filter}
use Rattle.std.proofs.lemmas.Fn.{filter_same}
use Rattle.qpack_table.specs.Positions.{Positions}
use Rattle.qpack_table.specs.SortedIndexes.{IsSortedIndexOf}
use Rattle.qpack_table.specs.Tables.{live_fields}
use Rattle.qpack_table.proofs.SortedChanges.{sorted_left}
use Rattle.qpack_table.proofs.dynamic.sorted.SortedIndexEntryIndex.drop_oldest.Goals as goal

pub returns-clause-index : goal.returns-clause-index
returns-clause-index g c =
    let old = c.args.self.now.sorted.items in
    let now = c.pop_oldest-freed.new.entries.items in
    let kept : c.retain.new.self.items ≡ filter (λ (index : ℕ). nat_lt c.pop_oldest-freed.new.vas.dropped index) old =
    subst (λ (n : ℕ). c.retain.new.self.items ≡ filter (λ (index : ℕ). nat_lt n index) old)
    c.total_dropped-dropped.ensures.exact
    (filter_same _ (λ (index : ℕ). nat_lt c.total_dropped-dropped.result index) _ (λ x b f t. search (rules, tests)) old
    c.retain.new.self.items c.retain.ensures.filtered) in
    subst (λ (l : List ℕ). IsSortedIndexOf c.pop_oldest-freed.new.vas.dropped (live_fields now) (length now) l) (sym kept)
    (sorted_left c.args.vas.now.dropped c.pop_oldest-freed.new.vas.dropped c.args.evicted c.args.entries.now.items now old
    c.requires.index c.requires.there c.pop_oldest-freed.ensures.left
    (ap (λ (p : Positions). p.dropped) c.pop_oldest-freed.ensures.dropped))
