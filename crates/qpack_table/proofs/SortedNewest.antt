-- The newest equal entry: the last of its run in the sorted index.
use Rattle.std.proofs.Common.{◌≡◌, ◌≢◌, ℕ, ◌+◌, ◌-◌, ◌<◌, ◌≤◌, List, length, get_or, Some}
use Rattle.std.specs.Prelude.{Contains}
use Rattle.std.proofs.Common.{sym, ap, subst, ◌∙◌, inl, inr, arith, refl}
use Rattle.std.specs.declared.cmp.Ordering.{Ordering}
use Rattle.std.specs.declared.cmp.Ordering.TheVariants.{Less, Equal, Greater}
use Rattle.std.specs.Ordering.{nat_cmp, ordering_reverse}
use Rattle.std.proofs.lemmas.Bool.{cases_lt}
use Rattle.std.proofs.lemmas.Cmp.{ranked}
use Rattle.std.proofs.lemmas.List.{get_or_default}
use Rattle.qpack_spec.specs.Field.{Field}
use Rattle.qpack_base.specs.HeaderFields.{field_cmp}
use Rattle.qpack_table.specs.Rows.{field_at, IsLiveIndex}
use Rattle.qpack_table.specs.Indexes.{FindsNewest}
use Rattle.qpack_table.specs.SortedIndexes.{IsSortedIndexOf, IsEndAt, HasRun, index_cmp}
use Rattle.qpack_table.specs.declared.dynamic.comparing.Part.TheVariants.{Whole}
use Rattle.qpack_table.specs.declared.dynamic.sorted.End.TheVariants.{Last}
use Rattle.qpack_table.proofs.RowOrder.{field_cmp_total, same_when_equal, equal_when_same, first_equal}
use Rattle.qpack_table.proofs.SortedOrder.{rises_by_part}

-- neither is above the other
tied : (f g : Field) (o : Ordering) → field_cmp f g ≡ o → o ≢ Greater → field_cmp g f ≢ Greater → f ≡ g
tied f g Less is a b = absurd (b (field_cmp_total.antisymm g f ∙ ap ordering_reverse is))
tied f g Equal is a b = same_when_equal f g is
tied f g Greater is a b = absurd (a refl)

not_both : (o : Ordering) → o ≡ Greater → o ≡ Equal → ⊥
not_both o g e = cc

-- of equal fields the index decides
pub rises_by_index : (dropped : ℕ) (live : List Field) (a b : ℕ) → field_at dropped live a ≡ field_at dropped live b
    → index_cmp dropped live a b ≡ Less → a < b
unfolding index_cmp
rises_by_index dropped live a b same h =
    ranked a b Less (sym (sym (first_equal _ (nat_cmp a b) (equal_when_same _ _ same)) ∙ h))

module _ (seed dropped : ℕ) (live : List Field) (entered : ℕ) (sorted : List ℕ)
    (is : IsSortedIndexOf dropped live entered sorted) (f : Field) (position : ℕ)
    (at : IsEndAt (Whole seed) dropped live sorted f Last position) where
  before_end : (j d : ℕ) → j < length sorted → field_cmp (field_at dropped live (get_or sorted j d)) f ≡ Equal
      → j < position
  before_end j d within equal = elim (cases_lt j position) [
    | inl lt ↦ lt
    | inr le ↦ absurd (not_both _ (at.behind j d le within) equal)
  ]

  pub newest_of_run : HasRun (Whole seed) dropped live sorted f → (index : ℕ)
      → index ≡ get_or sorted (position - 1) index → entered ≡ length live
      → FindsNewest (Whole seed) dropped live f (Some index)
  newest_of_run run index read all = (
    (alive.0, omega (arith, alive.1, all)),
    same,
    λ other there equal. greatest other there equal,
  )
    where
      first : run.position < position
      first = before_end run.position index run.within (run.equal index)

      within : position - 1 < length sorted
      within = omega (arith, first, at.within)

      alive : (dropped < index) × (index ≤ dropped + entered)
      alive = is.only index (position - 1, within, sym read)

      below : field_cmp (field_at dropped live index) f ≢ Greater
      below = subst (λ (i : ℕ). field_cmp (field_at dropped live i) f ≢ Greater) (sym read)
          (at.before (position - 1) index (omega (arith, first)))

      above : field_cmp f (field_at dropped live index) ≢ Greater
      above = elim (cases_lt run.position (position - 1)) [
        | inl lt ↦
            subst (λ (x : Field). field_cmp x (field_at dropped live index) ≢ Greater)
            (same_when_equal _ _ (run.equal index))
            (subst (λ (i : ℕ). field_cmp (field_at dropped live (get_or sorted run.position index))
            (field_at dropped live i) ≢ Greater) (sym read)
            (rises_by_part (Whole seed) dropped live _ _ (is.rises run.position (position - 1) index lt within)))
        | inr le ↦
            let last : run.position ≡ position - 1 = omega (arith, le, first) in
            subst (λ (x : Field). field_cmp x (field_at dropped live index) ≢ Greater)
            (same_when_equal _ _ (run.equal index))
            (subst (λ (i : ℕ). field_cmp (field_at dropped live i) (field_at dropped live index) ≢ Greater)
            (read ∙ ap (λ (j : ℕ). get_or sorted j index) (sym last))
            (λ g. not_both _ g (equal_when_same _ _ refl)))
      ]

      same : field_at dropped live index ≡ f
      same = tied _ _ _ refl below above

      greatest : (other : ℕ) → IsLiveIndex dropped live other → field_at dropped live other ≡ f → other ≤ index
      greatest other there equal = elim (cases_lt c.0 (position - 1)) [
        | inl lt ↦
            let less : other < index = rises_by_index dropped live other index (equal ∙ sym same)
            (subst (λ (i : ℕ). index_cmp dropped live other i ≡ Less) (sym read)
            (subst (λ (i : ℕ). index_cmp dropped live i (get_or sorted (position - 1) index) ≡ Less) (found index)
            (is.rises c.0 (position - 1) index lt within))) in
            omega (arith, less)
        | inr le ↦
            let last : c.0 ≡ position - 1 = omega (arith, le, here) in
            let one : other ≡ index = sym (found index) ∙ ap (λ (j : ℕ). get_or sorted j index) last ∙ sym read in
            omega (arith, one)
      ]
        where
          c : Contains sorted other
          c = is.all other there.0 (omega (arith, there.1, all))

          found : (d : ℕ) → get_or sorted c.0 d ≡ other
          found d = get_or_default sorted c.0 d other c.1 ∙ c.2

          here : c.0 < position
          here = before_end c.0 index c.1 (equal_when_same _ _ (ap (λ (i : ℕ). field_at dropped live i) (found index)
              ∙ equal))
