-- The newest entry of each part in a row, after a change of the entries or of the row.
use Rattle.std.proofs.Common.{◌≡◌, ℕ, ◌+◌, ◌-◌, ◌^◌, ◌<◌, ◌≤◌, [], ◌∷◌, ◌++◌, List, length, drop, sym, ap, subst}
use Rattle.std.proofs.Common.{◌∙◌, inl, inr, ◌⊎◌, arith}
use Rattle.std.proofs.lemmas.Bool.{cases_lt}
use Rattle.std.proofs.lemmas.List.{length-drop, length-append}
use Rattle.qpack_spec.specs.Field.{Field}
use Rattle.qpack_table.specs.Rows.{index_of, slot_of, part_of, part_at, IsRow, IsRowOf, HasSlotOf, Enters, Leaves}
use Rattle.qpack_table.specs.Tables.{live_fields}
use Rattle.qpack_table.specs.Entries.{Entry}
use Rattle.qpack_table.specs.declared.dynamic.comparing.Part.{Part}
use Rattle.qpack_table.specs.declared.dynamic.index.row.Slot.{Slot}
use Rattle.qpack_table.proofs.SlotIndexes.{index_kept}
use Rattle.qpack_table.proofs.Lookups.{fields_long}
use Rattle.qpack_table.proofs.RowChanges.{field_pushed, row_pushed, drop_field, above_oldest, row_without_oldest}
use Rattle.qpack_table.proofs.RowSlots.{index_entered}

-- ---- an entry is pushed that has not come in yet

pub entries_pushed : (part : Part) (dropped : ℕ) (live : List Field) (f : Field) (row : List Slot)
    → IsRowOf part dropped live (length live) row → IsRowOf part dropped (live ++ f ∷ []) (length live) row
entries_pushed part dropped live f row is = record {
  is_row = row_pushed part dropped live f row is.is_row;
  only = is.only;
  complete = λ a g h.
      let was = is.complete a g h in (
        was.0,
        was.1,
        was.2,
        omega (arith, was.3, length-append live (f ∷ [])),
        ap (λ (x : Field). part_of part x)
            (field_pushed dropped live f (index_of dropped was.0) (omega (arith, g, was.2), was.3))
            ∙ was.4
            ∙ ap (λ (x : Field). part_of part x) (sym (field_pushed dropped live f a (g, h))),
      );
}

module _ (part : Part) (dropped : ℕ) (live : List Field) (entered : ℕ) (old new : List Slot)
    (is : IsRowOf part dropped live entered old) where
  -- ---- the next one comes in

  module _ (slot : Slot) (next : index_of dropped slot ≡ dropped + entered + 1)
      (bound : index_of dropped slot ≤ dropped + length live) (rises : IsRow part dropped live new)
      (enters : Enters part dropped live old new slot) where
    -- an older one of its part is found by the new slot
    found : (a : ℕ) → dropped < a → a ≤ dropped + (entered + 1)
        → (a < index_of dropped slot) ⊎ (index_of dropped slot ≤ a) → HasSlotOf part dropped live new a
    found a g h (inl lt) =
        let was = is.complete a g (omega (arith, lt, next)) in
        elim (enters.kept was.0 was.1) [
          | inl same ↦ (slot, enters.entered, omega (arith, lt), bound, sym same ∙ was.4)
          | inr there ↦ (was.0, there, was.2, was.3, was.4)
        ]
    found a g h (inr le) =
        let same : index_of dropped slot ≡ a = omega (arith, h, le, next) in
        (slot, enters.entered, omega (arith, same), bound, ap (λ (i : ℕ). part_at part dropped live i) same)

    pub entry_entered : IsRowOf part dropped live (entered + 1) new
    entry_entered = record {
      is_row = rises;
      only = λ s c. elim (enters.only s c) [
        | inl e ↦
            let same : index_of dropped slot ≡ index_of dropped s = ap (λ (x : Slot). index_of dropped x) e in
            omega (arith, same, next)
        | inr was ↦ omega (arith, is.only s was)
      ];
      complete = λ a g h. found a g h (cases_lt a (index_of dropped slot));
    }

  -- ---- the oldest one goes out

  module _ (some : 0 < length live) (inside : 0 < entered) (rises : IsRow part dropped live new)
      (leaves : Leaves dropped old new (dropped + 1)) where
    left : (a : ℕ) → dropped + 1 < a → a ≤ dropped + 1 + (entered - 1)
        → HasSlotOf part (dropped + 1) (drop 1 live) new a
    left a lt h =
        let was = is.complete a (omega (arith, lt)) (omega (arith, h, inside)) in
        let above : dropped + 1 < index_of dropped was.0 = omega (arith, lt, was.2) in
        let kept = index_kept dropped was.0 above in (
          was.0,
          leaves.kept was.0 was.1 (λ e. omega (arith, e, above)),
          omega (arith, kept, was.2),
          omega (arith, kept, was.3, length-drop 1 live, some),
          ap (λ (i : ℕ). part_at part (dropped + 1) (drop 1 live) i) kept
              ∙ ap (λ (f : Field). part_of part f) (drop_field dropped live (index_of dropped was.0) above) ∙ was.4
              ∙ ap (λ (f : Field). part_of part f) (sym (drop_field dropped live a lt)),
        )

    pub entry_left : IsRowOf part (dropped + 1) (drop 1 live) (entered - 1) new
    entry_left = record {
      is_row = row_without_oldest part dropped live new some rises leaves.gone;
      only = λ s c.
          let above = above_oldest part dropped live new rises s c (leaves.gone s c) in
          omega (arith, index_kept dropped s above, is.only s (leaves.only s c), inside);
      complete = left;
    }

-- ---- as the code enters

-- the slot of the next index came in
pub slot_came : (part : Part) (dropped : ℕ) (es : List Entry) (index hash : ℕ) (old new : List Slot)
    → (dropped < index) × (index ≤ dropped + length es) → length es < 2 ^ 32
    → IsRowOf part dropped (live_fields es) (index - dropped - 1) old → IsRow part dropped (live_fields es) new
    → Enters part dropped (live_fields es) old new (slot_of hash index)
    → IsRowOf part dropped (live_fields es) (index - dropped) new
slot_came part dropped es index hash old new live few is rises enters =
    let same = index_entered part dropped es index hash live few in
    let count : index - dropped - 1 + 1 ≡ index - dropped = omega (arith, live.0) in
    subst (λ (n : ℕ). IsRowOf part dropped (live_fields es) n new) count
    (entry_entered part dropped (live_fields es) (index - dropped - 1) old new is (slot_of hash index)
    (omega (arith, same, live.0)) (omega (arith, same, live.1, fields_long es)) rises enters)
