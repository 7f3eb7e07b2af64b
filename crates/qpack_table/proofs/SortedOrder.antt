-- The order of the sorted index: what stands before an entry stands before whatever that stands before.
use Rattle.std.proofs.Common.{◌≡◌, ◌≢◌, ℕ, List, refl, sym, subst, ◌∙◌}
use Rattle.std.specs.declared.cmp.Ordering.{Ordering}
use Rattle.std.specs.declared.cmp.Ordering.TheVariants.{Less, Equal, Greater}
use Rattle.std.specs.Cmp.Lexicographic.{slice_cmp}
use Rattle.std.specs.Ordering.{nat_cmp, ordering_then}
use Rattle.qpack_spec.specs.Field.{Field}
use Rattle.qpack_base.specs.HeaderFields.{field_cmp}
use Rattle.qpack_table.specs.Rows.{part_of, part_at}
use Rattle.qpack_table.specs.SortedIndexes.{index_cmp, StandsBefore, StandsBehind}
use Rattle.qpack_table.specs.declared.dynamic.comparing.Part.{Part}
use Rattle.qpack_table.specs.declared.dynamic.comparing.Part.TheVariants.{Name, Whole}
use Rattle.qpack_table.specs.declared.dynamic.sorted.End.{End}
use Rattle.qpack_table.specs.declared.dynamic.sorted.End.TheVariants.{First, Last}
use Rattle.qpack_table.proofs.RowOrder.{field_cmp_total, same_when_equal}

-- an order whose first part is greater is greater
first_rises : (r s : Ordering) → ordering_then r s ≡ Less → r ≢ Greater
first_rises Less s h = λ e. cc
first_rises Equal s h = λ e. cc
first_rises Greater s h = λ e. cc

then_ties : (r : Ordering) → r ≢ Greater → ordering_then r Equal ≢ Greater
then_ties Less h = λ e. cc
then_ties Equal h = λ e. cc
then_ties Greater h = λ e. h refl

first_then : (r s : Ordering) → ordering_then r s ≢ Greater → r ≢ Greater
first_then Less s h = λ e. cc
first_then Equal s h = λ e. cc
first_then Greater s h = λ e. h refl

-- what rises by its index rises by its part, or ties
part_not_above : (part : Part) (f g : Field) → field_cmp f g ≢ Greater
    → field_cmp (part_of part f) (part_of part g) ≢ Greater
unfolding field_cmp
part_not_above (Name seed) f g h =
    then_ties (slice_cmp nat_cmp f.name g.name) (first_then _ (slice_cmp nat_cmp f.value g.value) h)
part_not_above (Whole seed) f g h = h

pub rises_by_part : (part : Part) (dropped : ℕ) (live : List Field) (a b : ℕ) → index_cmp dropped live a b ≡ Less
    → field_cmp (part_at part dropped live a) (part_at part dropped live b) ≢ Greater
unfolding index_cmp
rises_by_part part dropped live a b h = part_not_above part _ _ (first_rises _ (nat_cmp a b) h)

less_through : (x y k : Field) (r s : Ordering) → field_cmp x y ≡ r → field_cmp y k ≡ s → r ≢ Greater → s ≡ Less
    → field_cmp x k ≡ Less
less_through x y k Less s is also h e = field_cmp_total.trans x y k is (also ∙ e)
less_through x y k Equal s is also h e =
    subst (λ (z : Field). field_cmp z k ≡ Less) (sym (same_when_equal x y is)) (also ∙ e)
less_through x y k Greater s is also h e = absurd (h refl)

up_to_through : (x y k : Field) (s : Ordering) → field_cmp y k ≡ s → field_cmp x y ≢ Greater → s ≢ Greater
    → field_cmp x k ≢ Greater
up_to_through x y k Less also h e = λ g. less_and_greater (less_through x y k _ _ refl also h refl) g
  where
    less_and_greater : field_cmp x k ≡ Less → field_cmp x k ≡ Greater → ⊥
    less_and_greater l g = cc
up_to_through x y k Equal also h e =
    subst (λ (z : Field). field_cmp x z ≢ Greater) (same_when_equal y k also) h
up_to_through x y k Greater also h e = absurd (e refl)

pub before_through : (end : End) (x y k : Field) → field_cmp x y ≢ Greater → StandsBefore end (field_cmp y k)
    → StandsBefore end (field_cmp x k)
before_through First x y k h b = less_through x y k _ _ refl refl h b
before_through Last x y k h b = up_to_through x y k _ refl h b

pub behind_through : (end : End) (x y k : Field) → field_cmp x y ≢ Greater → StandsBehind end (field_cmp x k)
    → StandsBehind end (field_cmp y k)
behind_through First x y k h b = λ less. b (less_through x y k _ _ refl refl h less)
behind_through Last x y k h b = pick (field_cmp y k) refl
  where
    pick : (s : Ordering) → field_cmp y k ≡ s → field_cmp y k ≡ Greater
    pick Less is = absurd (up_to_through x y k _ is h (λ e. cc) b)
    pick Equal is = absurd (up_to_through x y k _ is h (λ e. cc) b)
    pick Greater is = is
