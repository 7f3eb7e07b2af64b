-- Which entries are evictable.
use Rattle.std.proofs.Common.{◌≡◌, ℕ, zero, suc, ◌+◌, ◌<◌, ◌≤◌, Bool, true, false, ◌||◌, ◌&&◌, List, [], ◌∷◌, ◌++◌}
use Rattle.std.proofs.Common.{length}
use Rattle.std.proofs.Common.{take, drop, get_or, Some, refl, sym, ap, subst, ◌∙◌, arith, inl, inr}
use Rattle.std.specs.Prelude.{not, slice_get, nat_lt, IfSome, if◌then◌else◌}
use Rattle.std.specs.List.{list_any}
use Rattle.std.proofs.lemmas.Bool.{cases_lt, lt-ltb, le-ltb}
use Rattle.std.proofs.lemmas.List.{drop_all, length-take}
use Rattle.std.proofs.lemmas.Option.{slice_get_read}
use Rattle.qpack_spec.specs.Table as table
use Rattle.qpack_spec.specs.Table.{has_number, is_evictable, all_evictable}
use Rattle.qpack_spec.proofs.Lists.{get_within}
use Rattle.qpack_table.specs.Tables.{entry_of, entries_of, times, references_in, IsEvictableAt}
use Rattle.qpack_table.proofs.References.{named_if_used}
use Rattle.qpack_table.proofs.Lookups.{entry_there}
use Rattle.qpack_table.specs.Entries.{Entry}

by_either : (x y z : Bool) → (x || y) ≡ true → (x || (y || z)) ≡ true
by_either true y z e = refl
by_either false true z e = refl
by_either false false z e = absurd cc

by_neither : (x y z : Bool) → (x || y) ≡ false → (x || (y || z)) ≡ z
by_neither true y z e = absurd cc
by_neither false true z e = absurd cc
by_neither false false z e = refl

pub evictable_used : (t : table.Table) (a n : ℕ) (sent : Bool) → n ≡ times a (t.referenced ++ references_in
    t.unacknowledged) → 0 < n
    → is_evictable t a sent ≡ false
unfolding is_evictable
evictable_used t a n sent e h =
    ap not (by_either (has_number a t.referenced)
    (list_any (λ (b : table.UnacknowledgedBlock). has_number a b.entries) t.unacknowledged)
    (sent && nat_lt t.known_received_count a)
    (named_if_used t.referenced t.unacknowledged a
    ∙ lt-ltb 0 (times a (t.referenced ++ references_in t.unacknowledged)) (omega (arith, e, h))))

pub evictable_unused : (t : table.Table) (a n : ℕ) (sent : Bool) → n ≡ times a (t.referenced ++ references_in
    t.unacknowledged) → n ≡ 0
    → is_evictable t a sent ≡ not (sent && nat_lt t.known_received_count a)
unfolding is_evictable
evictable_unused t a n sent e h =
    let none : times a (t.referenced ++ references_in t.unacknowledged) ≡ 0 = omega (arith, e, h) in
    ap not (by_neither (has_number a t.referenced)
    (list_any (λ (b : table.UnacknowledgedBlock). has_number a b.entries) t.unacknowledged)
    (sent && nat_lt t.known_received_count a)
    (named_if_used t.referenced t.unacknowledged a ∙ ap (nat_lt 0) none))

pub evictable_at : (t : table.Table) (es : List Entry) (position : ℕ) (e : Entry) (answer : Bool) → t.live
    ≡ entries_of es
    → position < length es → e ≡ get_or es position e
    → answer ≡ is_evictable t (t.dropped + position + 1) e.sent → IsEvictableAt t position answer
evictable_at t es position e answer live h is same =
    let there : slice_get t.live position ≡ Some (entry_of e) = ap (λ l. slice_get l position) live
    ∙ entry_there es position e h is in
    rw there same

-- the first of those that are left to test
next_tested : (xs : List table.Entry) (evicted position : ℕ) (x : table.Entry) → position < evicted
    → slice_get xs position ≡ Some x
    → drop position (take evicted xs) ≡ x ∷ drop (position + 1) (take evicted xs)
next_tested [] evicted position x h is = absurd cc
next_tested (y ∷ ys) zero position x h is = absurd (omega (arith, h))
next_tested (y ∷ ys) (suc evicted) zero x h is = let s : y ≡ x = cc in ap (λ z. z ∷ take evicted ys) s
next_tested (y ∷ ys) (suc evicted) (suc position) x h is =
    let next : suc position + 1 ≡ suc (position + 1) = omega arith in
    next_tested ys evicted position x (omega (arith, h)) is
    ∙ ap (λ (n : ℕ). x ∷ drop n (take (suc evicted) (y ∷ ys))) (sym next)

-- one position further
all_evictable_step : (t : table.Table) (evicted position : ℕ) (answer : Bool) → position < evicted → evicted
    ≤ length t.live
    → IsEvictableAt t position answer
    → all_evictable t (suc (t.dropped + position)) (drop position (take evicted t.live))
    ≡ (if answer then all_evictable t (suc (t.dropped + (position + 1))) (drop (position + 1) (take evicted t.live))
    else false)
unfolding all_evictable
all_evictable_step t evicted position answer h few at =
    let some = get_within t.live position (omega (arith, h, few)) in
    let is : answer ≡ is_evictable t (t.dropped + position + 1) some.0.sent =
    subst (λ o. IfSome o (λ (e : table.Entry). answer ≡ is_evictable t (t.dropped + position + 1) e.sent)) some.1 at in
    let here : t.dropped + position + 1 ≡ suc (t.dropped + position) = omega arith in
    let there : t.dropped + (position + 1) ≡ suc (t.dropped + position) = omega arith in
    rw (next_tested t.live evicted position some.0 h some.1, there, is, here) refl

pub stops_at_first : (t : table.Table) (evicted position : ℕ) → position < evicted → evicted ≤ length t.live
    → IsEvictableAt t position false
    → all_evictable t (suc (t.dropped + position)) (drop position (take evicted t.live)) ≡ false
stops_at_first t evicted position h few at = all_evictable_step t evicted position false h few at

pub free_goes_on : (t : table.Table) (evicted position : ℕ) → position < evicted → evicted ≤ length t.live
    → IsEvictableAt t position true
    → all_evictable t (suc (t.dropped + position)) (drop position (take evicted t.live))
    ≡ all_evictable t (suc (t.dropped + (position + 1))) (drop (position + 1) (take evicted t.live))
free_goes_on t evicted position h few at = all_evictable_step t evicted position true h few at

pub all_free : (t : table.Table) (evicted position : ℕ) → evicted ≤ position
    → all_evictable t (suc (t.dropped + position)) (drop position (take evicted t.live)) ≡ true
unfolding all_evictable
all_free t evicted position h =
    let none : drop position (take evicted t.live) ≡ [] =
    drop_all position (take evicted t.live) (omega (arith, h, length-take evicted t.live)) in
    rw none refl

pub item_there : {X : Type 0} (xs : List X) (position : ℕ) (x : X) → position < length xs → x ≡ get_or xs position x
    → slice_get xs position ≡ Some x
item_there xs position x h is = slice_get_read xs (length xs) position x refl h is

-- at most is less than one more
below_or_not : (a b : ℕ) → nat_lt b a ≡ not (nat_lt a (b + 1))
below_or_not a b =
    elim (cases_lt b a) [
      | inl h ↦ rw (lt-ltb b a h, le-ltb a (b + 1) (omega (arith, h))) refl
      | inr h ↦ rw (le-ltb b a h, lt-ltb a (b + 1) (omega (arith, h))) refl
    ]

-- a sent entry is received if the known received count reached its absolute index
pub sent_received : (known_received_count dropped position absolute : ℕ) (sent : Bool) → sent ≡ true → absolute
    ≡ dropped + position
    → nat_lt absolute known_received_count ≡ not (sent && nat_lt known_received_count (dropped + position + 1))
sent_received known_received_count dropped position absolute sent e h =
    rw (e, h) (below_or_not known_received_count (dropped + position))

pub not_sent : (known_received_count a : ℕ) (sent : Bool) → sent ≡ false
    → not sent ≡ not (sent && nat_lt known_received_count a)
not_sent known_received_count a sent e = rw e refl

-- one entry, read twice
pub read_twice : {X : Type 0} (xs : List X) (position : ℕ) (x y : X) → position < length xs → x ≡ get_or xs position x
    → y ≡ get_or xs position y → x ≡ y
read_twice xs position x y within a b =
    let first = item_there xs position x within a in
    let second = item_there xs position y within b in cc
