-- The sorted index as the table's entries come and go.
use Rattle.std.proofs.Common.{◌≡◌, ◌≢◌, ℕ, ◌+◌, ◌-◌, ◌<◌, ◌≤◌, Bool, true, false, List, [], ◌∷◌, ◌++◌}
use Rattle.std.proofs.Common.{cond, lt-ltb, ltb-true, length, get_or, drop, map, eqb, eqb-true, sym, ap, subst, ◌∙◌, inl, inr, ◌⊎◌, arith, refl}
use Rattle.std.specs.Prelude.{Contains, nat_lt}
use Rattle.std.specs.List.{AllPairs, filter, insert}
use Rattle.std.specs.List.Sorted.{IsPermutation}
use Rattle.std.specs.declared.cmp.Ordering.{Ordering}
use Rattle.std.specs.declared.cmp.Ordering.TheVariants.{Less, Equal, Greater}
use Rattle.std.specs.Ordering.{nat_cmp, ordering_then, ordering_reverse}
use Rattle.std.proofs.lemmas.Bool.{cases_lt}
use Rattle.std.proofs.lemmas.List.{length-map, length-drop, get_or-drop, get_or-map, get_or_default}
use Rattle.std.proofs.lemmas.List.Kept.{AllPairs-filter}
use Rattle.std.proofs.lemmas.List.Sorted.{IsPermutation-insert, IsPermutation-sym, Contains-permutation}
use Rattle.std.proofs.lemmas.Map.Steps.{length-le_from_distinct_below}
use Rattle.std.proofs.lemmas.Map.Keys.{IsDistinct-from_apart}
use Rattle.std.proofs.lemmas.Map.Views.{Contains-from_any}
use Rattle.qpack_spec.specs.Field.{Field}
use Rattle.qpack_base.specs.HeaderFields.{field_cmp}
use Rattle.qpack_table.specs.Entries.{Entry}
use Rattle.qpack_table.specs.Rows.{field_at}
use Rattle.qpack_table.specs.SortedIndexes.{IsSortedIndexOf, IsEndAt, index_cmp}
use Rattle.qpack_table.specs.Tables.{live_fields}
use Rattle.qpack_table.specs.declared.dynamic.comparing.Part.TheVariants.{Whole}
use Rattle.qpack_table.specs.declared.dynamic.sorted.End.TheVariants.{Last}
use Rattle.qpack_table.proofs.Evictions.{fields_drop, joined_fields}
use Rattle.qpack_table.proofs.Lists.{contains_either, contains_more, in_filter, contains_filter, all_pairs_insert}
use Rattle.qpack_table.proofs.Lookups.{fields_long}
use Rattle.qpack_table.proofs.RowChanges.{field_pushed}
use Rattle.qpack_table.proofs.RowOrder.{field_cmp_total, first_equal}
use Rattle.qpack_table.proofs.SortedNewest.{rises_by_index}

-- ---- it has no more indexes than entries are in

module _ (dropped : ℕ) (live : List Field) (entered : ℕ) (sorted : List ℕ)
    (is : IsSortedIndexOf dropped live entered sorted) where
  abbrev position : ℕ → ℕ
  position index = index - dropped - 1

  position_read : (j d e : ℕ) → j < length sorted → get_or (map position sorted) j d ≡ position (get_or sorted j e)
  position_read j d e h = get_or-map position sorted j e d h

  there : (j d : ℕ) → j < length sorted → Contains sorted (get_or sorted j d)
  there j d h = (j, h, get_or_default sorted j (get_or sorted j d) d h)

  apart : (i j d : ℕ) → i < j → j < length sorted
      → eqb (get_or (map position sorted) i d) (get_or (map position sorted) j d) ≡ false
  apart i j d lt within = pick (eqb (get_or (map position sorted) i d) (get_or (map position sorted) j d)) refl
    where
      pick : (b : Bool) → eqb (get_or (map position sorted) i d) (get_or (map position sorted) j d) ≡ b → b ≡ false
      pick false e = refl
      pick true e =
          let first = is.only _ (there i d (omega (arith, lt, within))) in
          let second = is.only _ (there j d within) in
          let places : position (get_or sorted i d) ≡ position (get_or sorted j d) =
          sym (position_read i d d (omega (arith, lt, within))) ∙ eqb-true _ _ e ∙ position_read j d d within in
          let same : get_or sorted i d ≡ get_or sorted j d = omega (arith, places, first, second) in
          let less = rises_by_index dropped live _ _ (ap (λ (x : ℕ). field_at dropped live x) same)
          (is.rises i j d lt within) in
          absurd (omega (arith, less, same))

  pub sorted_few : length sorted ≤ entered
  sorted_few =
      let long = length-map sorted position in
      let bound = length-le_from_distinct_below (map position sorted) entered
      (IsDistinct-from_apart eqb (map position sorted)
      (λ i j d lt within. apart i j d lt (omega (arith, within, long))))
      (λ q h. let c = Contains-from_any (λ x y. eqb-true x y) q (map position sorted) h in
      let lt : c.0 < length sorted = omega (arith, c.1, long) in
      let at = is.only _ (there c.0 0 lt) in
      let same : q ≡ position (get_or sorted c.0 0) = sym c.2 ∙ position_read c.0 q 0 lt in
      omega (arith, same, at.0, at.1)) in
      omega (arith, bound, long)

-- ---- its entries keep their fields

module _ (dropped from : ℕ) (live now : List Field) where
  same_order : (a b : ℕ) → field_at from now a ≡ field_at dropped live a → field_at from now b ≡ field_at dropped live b
      → index_cmp from now a b ≡ index_cmp dropped live a b
  unfolding index_cmp
  same_order a b first second = λ t. ordering_then (field_cmp (first t) (second t)) (nat_cmp a b)

  still_rises : (sorted : List ℕ) → AllPairs (λ a b. index_cmp dropped live a b ≡ Less) sorted
      → ((a : ℕ) → Contains sorted a → field_at from now a ≡ field_at dropped live a)
      → AllPairs (λ a b. index_cmp from now a b ≡ Less) sorted
  still_rises sorted rises kept i j d lt within =
      same_order (get_or sorted i d) (get_or sorted j d) (kept _ (at i (omega (arith, lt, within)))) (kept _ (at j within))
      ∙ rises i j d lt within
    where
      at : (k : ℕ) → k < length sorted → Contains sorted (get_or sorted k d)
      at k h = (k, h, get_or_default sorted k (get_or sorted k d) d h)

-- ---- the oldest are dropped

field_left : (dropped k : ℕ) (live : List Field) (a : ℕ) → dropped + k < a
    → field_at (dropped + k) (drop k live) a ≡ field_at dropped live a
field_left dropped k live a h =
    let none : Field = record { name = []; value = [] } in
    let position : k + (a - (dropped + k) - 1) ≡ a - dropped - 1 = omega (arith, h) in
    get_or-drop k live (a - (dropped + k) - 1) none ∙ ap (λ (i : ℕ). get_or live i none) position

abbrev stays : ℕ → ℕ → Bool
stays after index = nat_lt after index

sorted_dropped : (dropped k : ℕ) (live : List Field) (sorted : List ℕ)
    → IsSortedIndexOf dropped live (length live) sorted → k ≤ length live
    → IsSortedIndexOf (dropped + k) (drop k live) (length (drop k live)) (filter (stays (dropped + k)) sorted)
sorted_dropped dropped k live sorted is few = record {
  only = λ index c.
      let old = in_filter (stays (dropped + k)) sorted index c in
      (above index old.1, omega (arith, (is.only index old.0).1, length-drop k live, few));
  all = λ index low high.
      contains_filter (stays (dropped + k)) sorted index (below index low)
      (is.all index (omega (arith, low)) (omega (arith, high, length-drop k live, few)));
  rises = still_rises dropped (dropped + k) live (drop k live) (filter (stays (dropped + k)) sorted)
      (AllPairs-filter (λ a b. index_cmp dropped live a b ≡ Less) (stays (dropped + k)) sorted is.rises)
      (λ a c. field_left dropped k live a (above a (in_filter (stays (dropped + k)) sorted a c).1));
}
  where
    above : (index : ℕ) → stays (dropped + k) index ≡ true → dropped + k < index
    above index e = ltb-true (dropped + k) index e

    below : (index : ℕ) → dropped + k < index → stays (dropped + k) index ≡ true
    below index h = lt-ltb (dropped + k) index h

pub sorted_left : (dropped after k : ℕ) (es now : List Entry) (sorted : List ℕ)
    → IsSortedIndexOf dropped (live_fields es) (length es) sorted → k ≤ length es → now ≡ drop k es
    → after ≡ dropped + k
    → IsSortedIndexOf after (live_fields now) (length now) (filter (λ index. nat_lt after index) sorted)
sorted_left dropped after k es now sorted is few items moved =
    let long = fields_long es in
    let fields : drop k (live_fields es) ≡ live_fields now =
    fields_drop k es ∙ ap (λ (l : List Entry). live_fields l) (sym items) in
    let left = sorted_dropped dropped k (live_fields es) sorted
    (subst (λ (n : ℕ). IsSortedIndexOf dropped (live_fields es) n sorted) (sym long) is) (omega (arith, few, long)) in
    subst (λ (d : ℕ). IsSortedIndexOf d (live_fields now) (length now) (filter (stays d) sorted)) (sym moved)
    (subst (λ (n : ℕ). IsSortedIndexOf (dropped + k) (live_fields now) n (filter (stays (dropped + k)) sorted))
    (fields_long now)
    (subst (λ (l : List Field). IsSortedIndexOf (dropped + k) l (length l) (filter (stays (dropped + k)) sorted)) fields
    left))

-- ---- the newest comes in

-- the indexes that are in, once another entry is pushed
pub sorted_pushed : (dropped : ℕ) (front es : List Entry) (e : Entry) (sorted : List ℕ)
    → IsSortedIndexOf dropped (live_fields front) (length front) sorted → es ≡ front ++ e ∷ []
    → IsSortedIndexOf dropped (live_fields es) (length front) sorted
sorted_pushed dropped front es e sorted is items =
    subst (λ (l : List Field). IsSortedIndexOf dropped l (length front) sorted)
    (sym (ap (λ (l : List Entry). live_fields l) items ∙ joined_fields front e))
    (record {
      only = is.only;
      all = is.all;
      rises = still_rises dropped dropped (live_fields front) (live_fields front ++ e.field ∷ []) sorted is.rises
          (λ a c. field_pushed dropped (live_fields front) e.field a
          ((is.only a c).0, omega (arith, (is.only a c).1, fields_long front)));
    })

-- by the field, and of equal fields by the index
less_by_field : (dropped : ℕ) (live : List Field) (a b : ℕ)
    → field_cmp (field_at dropped live a) (field_at dropped live b) ≡ Less → index_cmp dropped live a b ≡ Less
unfolding index_cmp
less_by_field dropped live a b h = rw h refl

less_by_index : (dropped : ℕ) (live : List Field) (a b : ℕ)
    → field_cmp (field_at dropped live a) (field_at dropped live b) ≡ Equal → a < b
    → index_cmp dropped live a b ≡ Less
unfolding index_cmp
less_by_index dropped live a b h lt =
    first_equal _ (nat_cmp a b) h ∙ ap (λ (x : Bool). cond x Less (cond (eqb a b) Equal Greater)) (lt-ltb a b lt)

-- before the newest entry, where its field or a lesser one stands
before_newest : (dropped : ℕ) (live : List Field) (a b : ℕ) (o : Ordering)
    → field_cmp (field_at dropped live a) (field_at dropped live b) ≡ o → o ≢ Greater → a < b
    → index_cmp dropped live a b ≡ Less
before_newest dropped live a b Less is h lt = less_by_field dropped live a b is
before_newest dropped live a b Equal is h lt = less_by_index dropped live a b is lt
before_newest dropped live a b Greater is h lt = absurd (h refl)

pub sorted_entered : (seed dropped : ℕ) (live : List Field) (entered : ℕ) (sorted : List ℕ) (newest : ℕ) (f : Field)
    (place : ℕ) → IsSortedIndexOf dropped live entered sorted → newest ≡ dropped + entered + 1
    → field_at dropped live newest ≡ f → IsEndAt (Whole seed) dropped live sorted f Last place
    → IsSortedIndexOf dropped live (entered + 1) (insert sorted place newest)
sorted_entered seed dropped live entered sorted newest f place is next read at = record {
  only = λ index c. elim (from_insert index c) [
    | inl e ↦ (omega (arith, e, next), omega (arith, e, next))
    | inr old ↦ ((is.only index old).0, omega (arith, (is.only index old).1))
  ];
  all = λ index low high. elim (cases_lt index newest) [
    | inl lt ↦ Contains-permutation (newest ∷ sorted) (insert sorted place newest) index moved
        (contains_more sorted newest index (is.all index low (omega (arith, lt, next))))
    | inr le ↦ Contains-permutation (newest ∷ sorted) (insert sorted place newest) index moved
        (0, omega arith, omega (arith, le, high, next))
  ];
  rises = all_pairs_insert (λ a b. index_cmp dropped live a b ≡ Less) sorted place newest at.within is.rises
      (λ j d h. before_newest dropped live _ _ _ (ap (λ (x : Field). field_cmp (field_at dropped live (get_or sorted j d)) x) read)
      (at.before j d h) (older j d (omega (arith, h, at.within))))
      (λ j d le lt. less_by_field dropped live newest _
      (ap (λ (x : Field). field_cmp x (field_at dropped live (get_or sorted j d))) read
      ∙ flipped _ _ (at.behind j d le lt)));
}
  where
    moved : IsPermutation (newest ∷ sorted) (insert sorted place newest)
    moved = IsPermutation-insert sorted place newest

    from_insert : (index : ℕ) → Contains (insert sorted place newest) index → (newest ≡ index) ⊎ Contains sorted index
    from_insert index c = contains_either sorted newest index (Contains-permutation (insert sorted place newest)
        (newest ∷ sorted) index (IsPermutation-sym (newest ∷ sorted) (insert sorted place newest) moved) c)

    older : (j d : ℕ) → j < length sorted → get_or sorted j d < newest
    older j d h =
        omega (arith, (is.only _ (j, h, get_or_default sorted j (get_or sorted j d) d h)).1, next)

    flipped : (g h : Field) → field_cmp g h ≡ Greater → field_cmp h g ≡ Less
    flipped g h e = field_cmp_total.antisymm h g ∙ ap ordering_reverse e
