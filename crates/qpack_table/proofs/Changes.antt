-- What is put, and what a capacity changes, by cases.
use Rattle.std.proofs.Common.{◌≡◌, ℕ, ◌+◌, ◌^◌, ◌<◌, ◌≤◌, Bool, true, false, List, [], ◌∷◌, ◌++◌, length, drop, Ok}
use Rattle.std.proofs.Common.{Err, refl, sym, ap, ◌∙◌, arith}
use Rattle.std.specs.Prelude.{nat_eq, IsOk}
use Rattle.std.proofs.lemmas.Bool.{lt-ltb, le-ltb, lt-leb, le-leb, ne_eqb}
use Rattle.std.proofs.lemmas.List.{drop-append-le, length-map}
use Rattle.qpack_spec.specs.Field.{Field, field_size}
use Rattle.qpack_spec.specs.Table.{Table, Entry, insert_count, fields_in, can_evict, eviction_count_for, has_room}
use Rattle.qpack_spec.specs.Table.{with_entry}
use Rattle.qpack_spec.specs.Table.{put_entry, put, with_capacity}
use Rattle.qpack_spec.specs.Window.{DoesNotFit, AboveMaximum, eviction_count, greatest_capacity}
use Rattle.qpack_spec.proofs.Windows.{eviction_count_push}
use Rattle.qpack_table.specs.Tables.{IsInserted}

not_zero : (n : ℕ) → 0 < n → nat_eq n 0 ≡ false
not_zero n h = ne_eqb n 0 (λ e. omega (arith, h, e))

pub put_nothing : (t : Table) (f : Field) → t.capacity ≡ 0 → put t f ≡ Ok t
unfolding put
put_nothing t f e = rw e refl

pub put_too_large : (t : Table) (f : Field) → 0 < t.capacity → t.capacity < field_size f → put t f ≡ Err DoesNotFit
unfolding put
put_too_large t f some large = rw (not_zero t.capacity some, lt-leb (field_size f) t.capacity large) refl

pub put_too_late : (t : Table) (f : Field) → 0 < t.capacity → field_size f ≤ t.capacity → 2 ^ 62 ≤ insert_count t
    → put t f ≡ Ok t
unfolding put
put_too_late t f some fits late =
    rw (not_zero t.capacity some, le-leb (field_size f) t.capacity fits, le-ltb (insert_count t) (2 ^ 62) late) refl

-- a field that is put and not inserted
pub ruleset put_without_entry = (put_nothing, put_too_large, put_too_late)

-- the field fits a capacity above 0 and insertions are left; `evictable` says whether what has to go may go
pub record FitsTable (t : Table) (f : Field) (evictable : Bool) : Type 0 where
  pub some : 0 < t.capacity
  pub fits : field_size f ≤ t.capacity
  pub few : insert_count t < 2 ^ 62
  pub evicts : can_evict t (eviction_count_for t f) ≡ evictable

pub fits_table : (t : Table) (f : Field) (evicted : ℕ) (evictable : Bool) → 0 < t.capacity → field_size f ≤ t.capacity
    → insert_count t < 2 ^ 62
    → evicted ≡ eviction_count_for t f → can_evict t evicted ≡ evictable → FitsTable t f evictable
fits_table t f evicted evictable some fits few is e = record {
  some = some;
  fits = fits;
  few = few;
  evicts = ap (λ (n : ℕ). can_evict t n) (sym is) ∙ e;
}

pub put_against_held : (t : Table) (f : Field) → FitsTable t f false → put t f ≡ Ok t
unfolding put
put_against_held t f k =
    let fits = le-leb (field_size f) t.capacity k.fits in
    rw (not_zero t.capacity k.some, fits, lt-ltb (insert_count t) (2 ^ 62) k.few, k.evicts) refl

pub put_behind : (t new : Table) (f : Field) → FitsTable t f true → new ≡ with_entry t (put_entry f) → put t f ≡ Ok new
unfolding put
put_behind t new f k is =
    let fits = le-leb (field_size f) t.capacity k.fits in
    rw (not_zero t.capacity k.some, fits, lt-ltb (insert_count t) (2 ^ 62) k.few, k.evicts, is) refl

-- a field that fits is inserted where what has to go may go
pub is_inserted : (t : Table) (f : Field) → FitsTable t f true → IsInserted t f
unfolding has_room
is_inserted t f k = (
  k.some,
  let fits = le-leb (field_size f) t.capacity k.fits in
      rw (fits, lt-ltb (insert_count t) (2 ^ 62) k.few, k.evicts) refl,
)

pub resized_above : (t : Table) (n : ℕ) → greatest_capacity t.agreed_max < n → with_capacity t n ≡ Err AboveMaximum
unfolding with_capacity
resized_above t n above = rw (lt-leb n (greatest_capacity t.agreed_max) above) refl

pub resized_against_held : (t : Table) (n : ℕ) → n ≤ greatest_capacity t.agreed_max
    → can_evict t (eviction_count n (fields_in t.live)) ≡ false → with_capacity t n ≡ Err DoesNotFit
unfolding with_capacity
resized_against_held t n most held = rw (le-leb n (greatest_capacity t.agreed_max) most, held) refl

pub resized_to : (t : Table) (n dropped : ℕ) (live : List Entry) → n ≤ greatest_capacity t.agreed_max
    → can_evict t (eviction_count n (fields_in t.live)) ≡ true
    → dropped ≡ t.dropped + eviction_count n (fields_in t.live) → live
    ≡ drop (eviction_count n (fields_in t.live)) t.live
    → with_capacity t n ≡ Ok (record t { capacity = n; dropped = dropped; live = live })
unfolding with_capacity
resized_to t n dropped live most free d l = rw (le-leb n (greatest_capacity t.agreed_max) most, free, d, l) refl

pub is_resized : (t : Table) (n : ℕ) → n ≤ greatest_capacity t.agreed_max
    → can_evict t (eviction_count n (fields_in t.live)) ≡ true → IsOk (with_capacity t n)
is_resized t n most free = rw (resized_to t n _ _ most free refl refl) refl

-- one entry more, where those that have to go are evicted
pub entered : (t : Table) (e : Entry) (dropped : ℕ) (live : List Entry) → field_size e.field ≤ t.capacity
    → dropped ≡ t.dropped + eviction_count_for t e.field
    → live ≡ drop (eviction_count_for t e.field) t.live ++ e ∷ []
    → record t { dropped = dropped; live = live } ≡ with_entry t e
unfolding with_entry
entered t e dropped live fits d l =
    let few : eviction_count_for t e.field ≤ length t.live =
    omega (
      arith,
      eviction_count_push t.capacity (fields_in t.live) e.field fits,
      length-map t.live (λ (x : Entry). x.field),
    ) in
    rw (d, l, drop-append-le (eviction_count_for t e.field) t.live (e ∷ []) few) refl
