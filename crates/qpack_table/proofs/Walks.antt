-- The walk over the entries that have to go, which ends at the first that is not evictable.
use Rattle.std.proofs.Common.{◌≡◌, ℕ, suc, ◌+◌, ◌-◌, ◌<◌, ◌≤◌, true, false, List, length, take, drop, get_or, sym, ap}
use Rattle.std.proofs.Common.{subst, ◌∙◌, arith, Option, None, Some}
use Rattle.std.specs.Prelude.{IfSome, IfNone}
use Rattle.std.proofs.lemmas.Option.{IfSome_then}
use Rattle.qpack_spec.specs.Field.{Field, field_size}
use Rattle.qpack_spec.specs.Table as table
use Rattle.qpack_spec.specs.Table.{Table, fields_in, all_evictable, can_evict, eviction_count_for}
use Rattle.qpack_spec.specs.Window.{eviction_count}
use Rattle.qpack_spec.proofs.Positions.{eviction_count_live}
use Rattle.qpack_table.specs.Tables.{entries_of, IsEvictableAt}
use Rattle.qpack_table.specs.Entries.{Entry}
use Rattle.qpack_table.proofs.EvictableEntries.{stops_at_first, free_goes_on, all_free}
use Rattle.qpack_table.proofs.Evictions.{GoneSoFar, eviction_count_beside, still, evicted_more, evicted_fits}
use Rattle.qpack_table.proofs.Evictions.{evicted_all}

-- of the oldest, so many go so far, all of which are evictable
pub record Walked (t : Table) (es : List Entry) (room rest evicted : ℕ) : Type 0 where
  pub same : t.live ≡ entries_of es
  pub gone : GoneSoFar room es rest evicted
  pub free : can_evict t (eviction_count room (fields_in t.live))
      ≡ all_evictable t (suc (t.dropped + evicted)) (drop evicted (take (eviction_count room (fields_in t.live))
      t.live))

goes : (t : Table) (es : List Entry) (room rest evicted : ℕ) → Walked t es room rest evicted → room < rest
    → evicted < eviction_count room (fields_in t.live)
goes t es room rest evicted k more =
    subst (λ (l : List table.Entry). evicted < eviction_count room (fields_in l)) (sym k.same)
    (still room (fields_in (entries_of es)) evicted (omega (arith, more, k.gone.sum)))

pub walk_held : (t : Table) (es : List Entry) (room rest evicted : ℕ) → Walked t es room rest evicted → room < rest
    → IsEvictableAt t evicted false → can_evict t (eviction_count room (fields_in t.live)) ≡ false
walk_held t es room rest evicted k more at = k.free
    ∙ stops_at_first t (eviction_count room (fields_in t.live)) evicted (goes t es room rest evicted k more)
    (eviction_count_live t room) at

pub walk_more : (t : Table) (es : List Entry) (room rest evicted size : ℕ) (e : Entry) → Walked t es room rest evicted
    → evicted < length es → room < rest → IsEvictableAt t evicted true → e ≡ get_or es evicted e
    → size ≡ field_size e.field → Walked t es room (rest - size) (evicted + 1)
walk_more t es room rest evicted size e k within more at is exact = record {
  same = k.same;
  gone = evicted_more room es rest evicted size e within more is exact k.gone;
  free = k.free ∙ free_goes_on t (eviction_count room (fields_in t.live)) evicted (goes t es room rest evicted k more)
      (eviction_count_live t room) at;
}

counted : (t : Table) (es : List Entry) (room rest evicted : ℕ) → Walked t es room rest evicted
    → evicted ≡ eviction_count room (fields_in (entries_of es)) → evicted ≡ eviction_count room (fields_in t.live)
counted t es room rest evicted k is = is
    ∙ ap (λ (l : List table.Entry). eviction_count room (fields_in l)) (sym k.same)

pub walk_fits : (t : Table) (es : List Entry) (room rest evicted : ℕ) → Walked t es room rest evicted → rest ≤ room
    → evicted ≡ eviction_count room (fields_in t.live)
walk_fits t es room rest evicted k fits =
    counted t es room rest evicted k (evicted_fits room es rest evicted fits k.gone)

pub walk_all : (t : Table) (es : List Entry) (room rest evicted : ℕ) → Walked t es room rest evicted
    → length es ≤ evicted → evicted ≡ eviction_count room (fields_in t.live)
walk_all t es room rest evicted k all =
    counted t es room rest evicted k (evicted_all room es rest evicted all k.gone)

pub walk_free : (t : Table) (es : List Entry) (room rest evicted : ℕ) → Walked t es room rest evicted
    → evicted ≡ eviction_count room (fields_in t.live) → can_evict t evicted ≡ true
walk_free t es room rest evicted k is =
    ap (λ (n : ℕ). can_evict t n) is
    ∙ k.free ∙ all_free t (eviction_count room (fields_in t.live)) evicted (omega (arith, is))

-- ---- before a field

if_none : {X : Type 0} (r : Option X) (P Q : Type 0) → IfNone r P → (P → Q) → IfNone r Q
if_none None P Q h more = more h
if_none (Some x) P Q h more = tt

-- what is left beside a field of a size
beside : (t : Table) (room size : ℕ) (f : Field) → size ≤ t.capacity → room ≡ t.capacity - size → field_size f ≡ size
    → eviction_count room (fields_in t.live) ≡ eviction_count_for t f
beside t room size f fits is same =
    let left : room ≡ t.capacity - field_size f = omega (arith, is, same) in
    ap (λ (n : ℕ). eviction_count n (fields_in t.live)) left
    ∙ eviction_count_beside t.capacity (fields_in t.live) f (omega (arith, same, fits))

pub least_for : (t : Table) (room size : ℕ) (r : Option ℕ) → size ≤ t.capacity → room ≡ t.capacity - size
    → IfSome r (λ evicted. evicted ≡ eviction_count room (fields_in t.live))
    → IfSome r (λ evicted. (f : Field) → field_size f ≡ size → evicted ≡ eviction_count_for t f)
least_for t room size r fits is h =
    IfSome_then r h (λ evicted e f same. e ∙ beside t room size f fits is same)

pub held_for : (t : Table) (room size : ℕ) (r : Option ℕ) → size ≤ t.capacity → room ≡ t.capacity - size
    → IfNone r (can_evict t (eviction_count room (fields_in t.live)) ≡ false)
    → IfNone r ((f : Field) → field_size f ≡ size → can_evict t (eviction_count_for t f) ≡ false)
held_for t room size r fits is h =
    if_none r (can_evict t (eviction_count room (fields_in t.live)) ≡ false)
    ((f : Field) → field_size f ≡ size → can_evict t (eviction_count_for t f) ≡ false) h
    (λ e f same. ap (λ (n : ℕ). can_evict t n) (sym (beside t room size f fits is same)) ∙ e)
