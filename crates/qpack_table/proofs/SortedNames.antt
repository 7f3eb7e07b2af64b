-- The newest entry of a name: the greatest index of the run of that name in the sorted index.
use Rattle.std.proofs.Common.{◌≡◌, ◌≢◌, ℕ, ◌+◌, ◌-◌, ◌<◌, ◌≤◌, List, [], ◌∷◌, length, get_or, take, drop}
use Rattle.std.proofs.Common.{Some, None, refl, sym, ap, subst, ◌∙◌, inl, inr, ◌⊎◌, arith}
use Rattle.std.specs.Prelude.{Contains}
use Rattle.std.specs.declared.cmp.Ordering.{Ordering}
use Rattle.std.specs.declared.cmp.Ordering.TheVariants.{Less, Equal, Greater}
use Rattle.std.proofs.lemmas.Bool.{cases_lt}
use Rattle.std.proofs.lemmas.List.{length-drop, length-take, get_or-drop, get_or-take, get_or_default}
use Rattle.qpack_spec.specs.Field.{Field}
use Rattle.qpack_spec.specs.Reading.{greatest_of}
use Rattle.qpack_table.specs.Rows.{part_of, part_at}
use Rattle.qpack_table.specs.Indexes.{FindsNewest}
use Rattle.qpack_table.specs.SortedIndexes.{IsSortedIndexOf, IsEndAt, HasRun, order_at}
use Rattle.qpack_table.specs.declared.dynamic.comparing.Part.{Part}
use Rattle.qpack_table.specs.declared.dynamic.sorted.End.TheVariants.{First, Last}
use Rattle.qpack_table.proofs.Lists.{contains_either, contains_more}
use Rattle.qpack_table.proofs.RowOrder.{same_when_equal, equal_when_same}

-- ---- the greatest of some numbers

greatest_bounds : (xs : List ℕ) (a : ℕ) → Contains xs a → a ≤ greatest_of xs
unfolding greatest_of
greatest_bounds [] a c = absurd (omega (arith, c.1))
greatest_bounds (x ∷ xs) a c = elim (contains_either xs x a c) [
  | inl e ↦ omega (arith, e)
  | inr there ↦ omega (arith, greatest_bounds xs a there)
]

pub greatest_there : (xs : List ℕ) → 0 < length xs → Contains xs (greatest_of xs)
unfolding greatest_of
greatest_there [] h = absurd (omega (arith, h))
greatest_there (x ∷ []) h = (0, omega arith, omega arith)
greatest_there (x ∷ y ∷ xs) h = elim (cases_lt x (greatest_of (y ∷ xs))) [
  | inl lt ↦ subst (λ (a : ℕ). Contains (x ∷ y ∷ xs) a) (omega (arith, lt))
      (contains_more (y ∷ xs) x _ (greatest_there (y ∷ xs) (omega arith)))
  | inr le ↦ (0, omega arith, omega (arith, le))
]

-- ---- a run of entries

one_order : (o : Ordering) → o ≢ Less → o ≢ Greater → o ≡ Equal
one_order Less a b = absurd (a refl)
one_order Equal a b = refl
one_order Greater a b = absurd (b refl)

not_both : (o : Ordering) → o ≡ Less → o ≡ Equal → ⊥
not_both o l e = cc

not_either : (o : Ordering) → o ≡ Greater → o ≡ Equal → ⊥
not_either o g e = cc

module _ (part : Part) (dropped : ℕ) (live : List Field) (entered : ℕ) (sorted : List ℕ)
    (is : IsSortedIndexOf dropped live entered sorted) (f : Field) (first end : ℕ)
    (begins : IsEndAt part dropped live sorted f First first) (ends : IsEndAt part dropped live sorted f Last end) where
  -- what is equal stands between both ends
  pub between : (j d : ℕ) → j < length sorted → order_at part dropped live f (get_or sorted j d) ≡ Equal
      → (first ≤ j) × (j < end)
  between j d within equal = (not_before (cases_lt j first), not_behind (cases_lt j end))
    where
      not_before : (j < first) ⊎ (first ≤ j) → first ≤ j
      not_before (inl lt) = absurd (not_both _ (begins.before j d lt) equal)
      not_before (inr le) = le

      not_behind : (j < end) ⊎ (end ≤ j) → j < end
      not_behind (inl lt) = lt
      not_behind (inr le) = absurd (not_either _ (ends.behind j d le within) equal)

  -- and all that stands there is equal
  inside : (j d : ℕ) → first ≤ j → j < end → part_at part dropped live (get_or sorted j d) ≡ part_of part f
  inside j d low high =
      same_when_equal _ _
      (one_order _ (begins.behind j d low (omega (arith, high, ends.within))) (ends.before j d high))

  module _ (run : List ℕ) (cut : run ≡ take (end - first) (drop first sorted)) (has : HasRun part dropped live sorted f)
    where
      place : (first ≤ has.position) × (has.position < end)
      place = between has.position 0 has.within (has.equal 0)

      long : length run ≡ end - first
      long = omega (
        arith,
        ap (λ (l : List ℕ). length l) cut,
        length-take (end - first) (drop first sorted),
        length-drop first sorted,
        place,
        ends.within,
      )

      read : (k d : ℕ) → k < end - first → get_or run k d ≡ get_or sorted (first + k) d
      read k d h =
          ap (λ (l : List ℕ). get_or l k d) cut ∙ get_or-take (end - first) (drop first sorted) k d h
          ∙ get_or-drop first sorted k d

      pub greatest_of_run : entered ≡ length live → FindsNewest part dropped live (part_of part f) (Some (greatest_of run))
      greatest_of_run all = (
        (there.0, omega (arith, there.1, all)),
        subst (λ (a : ℕ). part_at part dropped live a ≡ part_of part f)
            (sym (read c.0 newest (omega (arith, c.1, long))) ∙ c.2)
            (inside (first + c.0) newest (omega arith) (omega (arith, c.1, long))),
        λ other at same.
            let e : Contains sorted other = is.all other at.0 (omega (arith, at.1, all)) in
            let found : get_or sorted e.0 0 ≡ other = get_or_default sorted e.0 0 other e.1 ∙ e.2 in
            let stands = between e.0 0 e.1
            (equal_when_same _ _ (ap (λ (a : ℕ). part_at part dropped live a) found ∙ same)) in
            let within : e.0 - first < end - first = omega (arith, stands) in
            greatest_bounds run other (
              e.0 - first,
              omega (arith, within, long),
              read (e.0 - first) other within
                  ∙ ap (λ (j : ℕ). get_or sorted j other) (omega (arith, stands)) ∙ e.2,
            ),
      )
        where
          newest : ℕ
          newest = greatest_of run

          some : 0 < length run
          some = omega (arith, long, place)

          c : Contains run newest
          c = greatest_there run some

          here : Contains sorted newest
          here = (
            first + c.0,
            omega (arith, c.1, long, place, ends.within),
            sym (read c.0 newest (omega (arith, c.1, long))) ∙ c.2,
          )

          there : (dropped < newest) × (newest ≤ dropped + entered)
          there = is.only newest here

pub none_of_run : (part : Part) (dropped : ℕ) (live : List Field) (entered : ℕ) (sorted : List ℕ)
    → IsSortedIndexOf dropped live entered sorted → (f : Field) → (HasRun part dropped live sorted f → ⊥)
    → entered ≡ length live → FindsNewest part dropped live (part_of part f) None
none_of_run part dropped live entered sorted is f none all = λ other at same.
    let c : Contains sorted other = is.all other at.0 (omega (arith, at.1, all)) in
    none (record {
      position = c.0;
      within = c.1;
      equal = λ d. equal_when_same _ _
          (ap (λ (a : ℕ). part_at part dropped live a) (get_or_default sorted c.0 d other c.1 ∙ c.2) ∙ same);
    })
