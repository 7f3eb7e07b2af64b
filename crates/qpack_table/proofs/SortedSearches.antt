-- A halving search in the sorted index, for either end of a run.
use Rattle.std.proofs.Common.{◌≡◌, ◌≢◌, ℕ, ◌+◌, ◌-◌, ◌<◌, ◌≤◌, Bool, true, false, List, length, get_or}
use Rattle.std.proofs.Common.{sym, ap, subst, ◌∙◌, inl, inr, arith, refl}
use Rattle.std.specs.declared.cmp.Ordering.{Ordering}
use Rattle.std.specs.declared.cmp.Ordering.TheVariants.{Less, Equal, Greater}
use Rattle.std.proofs.lemmas.Bool.{cases_lt}
use Rattle.std.proofs.lemmas.List.{get_or_default}
use Rattle.qpack_spec.specs.Field.{Field}
use Rattle.qpack_table.specs.Rows.{part_of, part_at}
use Rattle.qpack_table.specs.SortedIndexes.{IsSortedIndexOf, IsEndAt, HasRun, StandsBefore, StandsBehind}
use Rattle.qpack_table.specs.SortedIndexes.{order_at}
use Rattle.qpack_table.specs.declared.dynamic.comparing.Part.{Part}
use Rattle.qpack_table.specs.declared.dynamic.sorted.End.{End}
use Rattle.qpack_table.specs.declared.dynamic.sorted.End.TheVariants.{First, Last}
use Rattle.qpack_base.specs.HeaderFields.{field_cmp}
use Rattle.qpack_table.specs.Tables.{live_fields}
use Rattle.qpack_table.specs.Entries.{Entry}
use Rattle.qpack_table.proofs.RowSearches.{entry_part}
use Rattle.qpack_table.proofs.Lookups.{fields_long}
use Rattle.qpack_table.proofs.SortedOrder.{rises_by_part, before_through, behind_through}

-- what is known between two positions: how those before the lower one and those from the higher one on stand beside
-- what is sought, and whether an equal one was met
pub record Halving (part : Part) (dropped : ℕ) (live : List Field) (sorted : List ℕ) (f : Field) (end : End)
    (low high : ℕ) (found : Bool) : Type 0 where
  pub order : low ≤ high
  pub within : high ≤ length sorted
  pub before : (j d : ℕ) → j < low → StandsBefore end (order_at part dropped live f (get_or sorted j d))
  pub behind : (j d : ℕ) → high ≤ j → j < length sorted
      → StandsBehind end (order_at part dropped live f (get_or sorted j d))
  pub met : found ≡ true → HasRun part dropped live sorted f
  pub left : found ≡ false → (j d : ℕ) → j < low → order_at part dropped live f (get_or sorted j d) ≢ Equal
  pub right : found ≡ false → (j d : ℕ) → high ≤ j → j < length sorted
      → order_at part dropped live f (get_or sorted j d) ≢ Equal

-- an index that is read is live
pub live_read : (dropped : ℕ) (live : List Field) (entered : ℕ) (sorted : List ℕ)
    → IsSortedIndexOf dropped live entered sorted → (middle index : ℕ) → middle < length sorted
    → index ≡ get_or sorted middle index → (dropped < index) × (index ≤ dropped + entered)
live_read dropped live entered sorted is middle index within read = is.only index (middle, within, sym read)

-- its entry stands where its field does
pub entry_order : (part : Part) (dropped : ℕ) (es : List Entry) (index : ℕ) (e : Entry) (f : Field) {entered : ℕ}
    → (dropped < index) × (index ≤ dropped + entered) → entered ≤ length es
    → e ≡ get_or es (index - dropped - 1) e
    → field_cmp (part_of part e.field) (part_of part f) ≡ order_at part dropped (live_fields es) f index
entry_order part dropped es index e f live within read =
    ap (λ (x : Field). field_cmp x (part_of part f))
    (entry_part part dropped es index e (live.0, omega (arith, live.1, within, fields_long es)) read)

module _ (part : Part) (dropped : ℕ) (live : List Field) (sorted : List ℕ) (entered : ℕ)
    (is : IsSortedIndexOf dropped live entered sorted) (f : Field) (end : End) where
  abbrev order : ℕ → ℕ → Ordering
  order j d = order_at part dropped live f (get_or sorted j d)

  pub begins : Halving part dropped live sorted f end 0 (length sorted) false
  begins = record {
    order = omega arith;
    within = omega arith;
    before = λ j d h. absurd (omega (arith, h));
    behind = λ j d h lt. absurd (omega (arith, h, lt));
    met = λ e. absurd cc;
    left = λ e j d h. absurd (omega (arith, h));
    right = λ e j d h lt. absurd (omega (arith, h, lt));
  }

  -- entries rise by their parts, or tie
  rises : (i j d : ℕ) → i < j → j < length sorted
      → field_cmp (part_at part dropped live (get_or sorted i d)) (part_at part dropped live (get_or sorted j d))
      ≢ Greater
  rises i j d lt within = rises_by_part part dropped live _ _ (is.rises i j d lt within)

  -- the positions before one that stands before what is sought stand before it too
  all_before : (e : End) (middle : ℕ) → middle < length sorted → ((d : ℕ) → StandsBefore e (order middle d))
      → (j d : ℕ) → j < middle + 1 → StandsBefore e (order j d)
  all_before e middle to at j d g = elim (cases_lt j middle) [
    | inl lt ↦ before_through e _ _ (part_of part f) (rises j middle d lt to) (at d)
    | inr le ↦
        let same : middle ≡ j = omega (arith, le, g) in
        subst (λ (i : ℕ). StandsBefore e (order i d)) same (at d)
  ]

  all_behind : (e : End) (middle : ℕ) → ((d : ℕ) → StandsBehind e (order middle d))
      → (j d : ℕ) → middle ≤ j → j < length sorted → StandsBehind e (order j d)
  all_behind e middle at j d g lt = elim (cases_lt middle j) [
    | inl less ↦ behind_through e _ _ (part_of part f) (rises middle j d less lt) (at d)
    | inr le ↦
        let same : middle ≡ j = omega (arith, le, g) in
        subst (λ (i : ℕ). StandsBehind e (order i d)) same (at d)
  ]

  before_less : (e : End) (o : Ordering) → o ≡ Less → StandsBefore e o
  before_less First o h = h
  before_less Last o h = λ g. cc

  behind_greater : (e : End) (o : Ordering) → o ≡ Greater → StandsBehind e o
  behind_greater First o h = λ l. cc
  behind_greater Last o h = h

  not_equal_less : (o : Ordering) → o ≡ Less → o ≢ Equal
  not_equal_less o h e = cc

  not_equal_greater : (o : Ordering) → o ≡ Greater → o ≢ Equal
  not_equal_greater o h e = cc

  not_greater_equal : (o : Ordering) → o ≡ Equal → o ≢ Greater
  not_greater_equal o h e = cc

  not_less_equal : (o : Ordering) → o ≡ Equal → o ≢ Less
  not_less_equal o h e = cc

  module _ (low high middle : ℕ) (found : Bool) (h : Halving part dropped live sorted f end low high found)
      (from : low ≤ middle) (to : middle < high) (index : ℕ) (read : index ≡ get_or sorted middle index) where
    there : (d : ℕ) → get_or sorted middle d ≡ index
    there d = get_or_default sorted middle d index (omega (arith, to, h.within)) ∙ sym read

    at : (o : Ordering) → order_at part dropped live f index ≡ o → (d : ℕ) → order middle d ≡ o
    at o e d = ap (λ (i : ℕ). order_at part dropped live f i) (there d) ∙ e

    pub goes_higher : order_at part dropped live f index ≡ Less
        → Halving part dropped live sorted f end (middle + 1) high found
    goes_higher less = record {
      order = omega (arith, to);
      within = h.within;
      before = all_before end middle (omega (arith, to, h.within)) (λ d. before_less end _ (at Less less d));
      behind = h.behind;
      met = h.met;
      left = λ e j d g. not_equal_less _
          (all_before First middle (omega (arith, to, h.within)) (at Less less) j d g);
      right = h.right;
    }

    pub goes_lower : order_at part dropped live f index ≡ Greater
        → Halving part dropped live sorted f end low middle found
    goes_lower greater = record {
      order = from;
      within = omega (arith, to, h.within);
      before = h.before;
      behind = all_behind end middle (λ d. behind_greater end _ (at Greater greater d));
      met = h.met;
      left = h.left;
      right = λ e j d g lt. not_equal_greater _ (all_behind Last middle (at Greater greater) j d g lt);
    }

    run : order_at part dropped live f index ≡ Equal → HasRun part dropped live sorted f
    run equal = record {
      position = middle;
      within = omega (arith, to, h.within);
      equal = at Equal equal;
    }

    pub meets_last : end ≡ Last → order_at part dropped live f index ≡ Equal
        → Halving part dropped live sorted f end (middle + 1) high true
    meets_last last equal = record {
      order = omega (arith, to);
      within = h.within;
      before = all_before end middle (omega (arith, to, h.within))
          (λ d. subst (λ (e : End). StandsBefore e (order middle d)) (sym last)
          (not_greater_equal _ (at Equal equal d)));
      behind = h.behind;
      met = λ e. run equal;
      left = λ e. absurd cc;
      right = λ e. absurd cc;
    }

    pub meets_first : end ≡ First → order_at part dropped live f index ≡ Equal
        → Halving part dropped live sorted f end low middle true
    meets_first first equal = record {
      order = from;
      within = omega (arith, to, h.within);
      before = h.before;
      behind = all_behind end middle
          (λ d. subst (λ (e : End). StandsBehind e (order middle d)) (sym first)
          (not_less_equal _ (at Equal equal d)));
      met = λ e. run equal;
      left = λ e. absurd cc;
      right = λ e. absurd cc;
    }

  -- at the end of a search
  at_end : (low high : ℕ) (found : Bool) → Halving part dropped live sorted f end low high found → high ≤ low
      → IsEndAt part dropped live sorted f end low
  at_end low high found h le = record {
    within = omega (arith, h.order, h.within);
    before = h.before;
    behind = λ j d g lt. h.behind j d (omega (arith, le, g)) lt;
  }

  pub ends_found : (low high : ℕ) → Halving part dropped live sorted f end low high true → high ≤ low
      → IsEndAt part dropped live sorted f end low × HasRun part dropped live sorted f
  ends_found low high h le = (at_end low high true h le, h.met refl)

  pub ends_nowhere : (low high : ℕ) → Halving part dropped live sorted f end low high false → high ≤ low
      → IsEndAt part dropped live sorted f end low × (HasRun part dropped live sorted f → ⊥)
  ends_nowhere low high h le = (
    at_end low high false h le,
    λ r. elim (cases_lt r.position low) [
      | inl lt ↦ h.left refl r.position 0 lt (r.equal 0)
      | inr ge ↦ h.right refl r.position 0 (omega (arith, le, ge)) r.within (r.equal 0)
    ],
  )
