-- The laws of a table with marks.
use Rattle.std.proofs.Common.{ℕ, ◌+◌, ◌≡◌, cond, List, drop, Ok, Err, sym, ap, ◌∙◌}
use Rattle.std.specs.Prelude.{nat_le}
use Rattle.std.proofs.lemmas.Bool.{cond_both}
use Rattle.std.proofs.lemmas.List.{drop-map}
use Rattle.qpack_spec.specs.Field.{Field}
use Rattle.qpack_spec.specs.Window.{Window, DoesNotFit, AboveMaximum, eviction_count, greatest_capacity, Resizes}
use Rattle.qpack_spec.specs.Window.{window_after}
use Rattle.qpack_spec.specs.Table.{Entry, Table, fields_in, window, can_evict, with_capacity}
use Rattle.qpack_rules.specs.TableLaws.{EntriesAreInsertions, CapacitiesAreOfTheWindow}
use Rattle.qpack_spec.proofs.Results.{ok_is}
use Rattle.qpack_spec.proofs.Positions.{window_entered}

pub entries_inserted : EntriesAreInsertions
entries_inserted t e = window_entered t e

-- the table behind a capacity
abbrev smaller : Table → ℕ → Table
smaller t n =
    record t {
      capacity = n;
      dropped = t.dropped + eviction_count n (fields_in t.live);
      live = drop (eviction_count n (fields_in t.live)) t.live;
    }

smaller_window : (t : Table) (n : ℕ) → window (smaller t n) ≡ window_after (window t) (Resizes n)
unfolding window window_after
smaller_window t n =
    let k = eviction_count n (fields_in t.live) in
    ap (λ (l : List Field). let w : Window = record {
      capacity = n;
      agreed_max = t.agreed_max;
      dropped = t.dropped + k;
      live = l;
    } in w) (sym (drop-map (λ (x : Entry). x.field) k t.live))

pub capacities_of_window : CapacitiesAreOfTheWindow
unfolding with_capacity
capacities_of_window t u n e =
    let evicted = eviction_count n (fields_in t.live) in
    cond_both (nat_le n (greatest_capacity t.agreed_max))
    (cond (can_evict t evicted) (Ok (smaller t n)) (Err DoesNotFit))
    (Err AboveMaximum) (λ r. r ≡ Ok u → window u ≡ window_after (window t) (Resizes n))
    (λ _. cond_both (can_evict t evicted) (Ok (smaller t n)) (Err DoesNotFit) (λ r. r ≡ Ok u
    → window u ≡ window_after (window t) (Resizes n))
    (λ _ q. ap window (sym (ok_is _ _ q)) ∙ smaller_window t n)
    (λ _ q. absurd cc))
    (λ _ q. absurd cc)
    e
