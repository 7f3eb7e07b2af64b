-- A row that takes a slot in, or lets one go.
use Rattle.std.proofs.Common.{◌≡◌, ℕ, ◌+◌, ◌^◌, ◌<◌, ◌≤◌, ◌∷◌, List, length, get_or, set, refl, sym}
use Rattle.std.proofs.Common.{ap, subst, ◌∙◌, inl, inr, ◌⊎◌, arith}
use Rattle.std.specs.Prelude.{Contains}
use Rattle.std.specs.declared.cmp.Ordering.TheVariants.{Less, Equal}
use Rattle.std.specs.List.{insert, remove}
use Rattle.std.specs.List.Sorted.{IsPermutation}
use Rattle.std.proofs.lemmas.Bool.{cases_lt, cases_eq}
use Rattle.std.proofs.lemmas.List.{get_or_default, length-set, get_or-set_other, get_or-set_same}
use Rattle.std.proofs.lemmas.List.Sorted.{IsPermutation-insert, IsPermutation-remove, IsPermutation-sym}
use Rattle.std.proofs.lemmas.List.Sorted.{Contains-permutation}
use Rattle.std.proofs.lemmas.List.Edits.{length-remove, get_or-remove_below, get_or-remove_above}
use Rattle.std.proofs.lemmas.List.Quantifiers.{all_pairs_remove}
use Rattle.qpack_spec.specs.Field.{Field}
use Rattle.qpack_table.specs.Rows.{Key, key_cmp, key_at, part_of, part_at, hash_of, field_at, IsSlot, IsRow, IsMatch}
use Rattle.qpack_table.specs.Rows.{IsGap, Enters, Leaves, HasIndexAt, HasNoIndex, index_of, slot_of}
use Rattle.qpack_table.specs.declared.dynamic.comparing.Part.{Part}
use Rattle.qpack_table.specs.declared.dynamic.index.row.Slot.{Slot}
use Rattle.qpack_table.proofs.Lists.{contains_more, contains_either, set_either, all_pairs_insert}
use Rattle.qpack_table.proofs.RowOrder.{same_key, tie_of, same_hash, flipped_greater, not_less_and_equal}
use Rattle.qpack_table.specs.Tables.{live_fields}
use Rattle.qpack_table.specs.Entries.{Entry}
use Rattle.qpack_table.proofs.Lookups.{fields_long}
use Rattle.qpack_table.proofs.RowSearches.{ties, found_none}
use Rattle.qpack_table.proofs.SlotIndexes.{index_made}

-- ---- a slot comes in

module _ (part : Part) (dropped : ℕ) (live : List Field) (row : List Slot) (is : IsRow part dropped live row)
    (slot : Slot) (there : IsSlot part dropped live slot) where
  abbrev key : Slot → Key
  key s = key_at part dropped live s

  -- into the slot of its part
  module _ (k : Key) (same : key slot ≡ k) (p : ℕ) (at : IsMatch part dropped live row k p) where
    key_there : (d : Slot) → key (get_or row p d) ≡ key slot
    key_there d = same_key (key (get_or row p d)) k (at.equal d) ∙ sym same

    keys_set : (j : ℕ) (d : Slot) → key (get_or (set row p slot) j d) ≡ key (get_or row j d)
    keys_set j d = elim (cases_eq j p) [
      | inl e ↦
          ap key (ap (λ (i : ℕ). get_or (set row p slot) i d) e ∙ get_or-set_same row p slot d at.within)
          ∙ sym (key_there d) ∙ ap (λ (i : ℕ). key (get_or row i d)) (sym e)
      | inr ne ↦ ap key (get_or-set_other row p j slot d ne)
    ]

    pub row_set : IsRow part dropped live (set row p slot)
    row_set = record {
      slots = λ s c. elim (set_either row p slot s at.within c) [
        | inl e ↦ subst (λ (x : Slot). IsSlot part dropped live x) e there
        | inr old ↦ is.slots s old
      ];
      rises = λ i j d lt within.
          (λ t. key_cmp (keys_set i d t) (keys_set j d t))
          ∙ is.rises i j d lt (omega (arith, within, length-set row p slot));
    }

    kept_set : (s : Slot) (c : Contains row s) → (c.0 ≡ p) ⊎ (c.0 ≡ p → ⊥)
        → (part_at part dropped live (index_of dropped s) ≡ part_at part dropped live (index_of dropped slot))
        ⊎ Contains (set row p slot) s
    kept_set s c (inl e) =
        let one : key s ≡ key slot =
        ap key (sym c.2 ∙ ap (λ (i : ℕ). get_or row i s) e) ∙ key_there s in
        inl (ap (λ (x : Key). x.field) one)
    kept_set s c (inr ne) = inr (
      c.0,
      omega (arith, c.1, length-set row p slot),
      get_or-set_other row p c.0 slot s ne ∙ c.2,
    )

    pub enters_set : Enters part dropped live row (set row p slot) slot
    enters_set = record {
      entered = (p, omega (arith, at.within, length-set row p slot), get_or-set_same row p slot slot at.within);
      kept = λ s c. kept_set s c (cases_eq c.0 p);
      only = λ s c. set_either row p slot s at.within c;
    }

  -- between others
  module _ (k : Key) (same : key slot ≡ k) (p : ℕ) (at : IsGap part dropped live row k p) where
    moved : IsPermutation (slot ∷ row) (insert row p slot)
    moved = IsPermutation-insert row p slot

    from_insert : (s : Slot) → Contains (insert row p slot) s → (slot ≡ s) ⊎ Contains row s
    from_insert s c = contains_either row slot s (Contains-permutation (insert row p slot) (slot ∷ row) s
        (IsPermutation-sym (slot ∷ row) (insert row p slot) moved) c)

    pub row_inserted : IsRow part dropped live (insert row p slot)
    row_inserted = record {
      slots = λ s c. elim (from_insert s c) [
        | inl e ↦ subst (λ (x : Slot). IsSlot part dropped live x) e there
        | inr old ↦ is.slots s old
      ];
      rises = all_pairs_insert (λ a b. key_cmp (key a) (key b) ≡ Less) row p slot at.within is.rises
          (λ j d h. ap (λ (x : Key). key_cmp (key (get_or row j d)) x) same ∙ at.before j d h)
          (λ j d h lt. ap (λ (x : Key). key_cmp x (key (get_or row j d))) same
          ∙ flipped_greater (key (get_or row j d)) k (at.after j d h lt));
    }

    pub enters_inserted : Enters part dropped live row (insert row p slot) slot
    enters_inserted = record {
      entered = Contains-permutation (slot ∷ row) (insert row p slot) slot moved (0, omega arith, refl);
      kept = λ s c. inr (Contains-permutation (slot ∷ row) (insert row p slot) s moved
          (contains_more row slot s c));
      only = from_insert;
    }

-- ---- an index goes out

-- where it is in no slot
pub leaves_none : (dropped : ℕ) (row : List Slot) (index : ℕ) → HasNoIndex dropped row index
    → Leaves dropped row row index
leaves_none dropped row index none = record {
  kept = λ s c ne. c;
  only = λ s c. c;
  gone = λ s c e. none c.0 s c.1 (ap (λ (x : Slot). index_of dropped x) c.2 ∙ e);
}

module _ (part : Part) (dropped : ℕ) (live : List Field) (row : List Slot) (is : IsRow part dropped live row)
  where
    -- slots of one part, or of one index, tie
    tied_parts : (s t : Slot) → Contains row s → Contains row t
        → part_at part dropped live (index_of dropped s) ≡ part_at part dropped live (index_of dropped t)
        → key_cmp (key_at part dropped live s) (key_at part dropped live t) ≡ Equal
    tied_parts s t c e fields =
        tie_of (key_at part dropped live s) (key_at part dropped live t)
        ((is.slots s c).1
        ∙ same_hash part (field_at dropped live (index_of dropped s)) (field_at dropped live (index_of dropped t)) fields
        ∙ sym (is.slots t e).1) fields

    alike : (s t : Slot) → Contains row s → Contains row t → index_of dropped s ≡ index_of dropped t
        → key_cmp (key_at part dropped live s) (key_at part dropped live t) ≡ Equal
    alike s t c e same = tied_parts s t c e (ap (λ (i : ℕ). part_at part dropped live i) same)

    -- slots that tie stand at one position
    one_place : (i j : ℕ) (d : Slot) → i < length row → j < length row
        → key_cmp (key_at part dropped live (get_or row i d)) (key_at part dropped live (get_or row j d)) ≡ Equal
        → key_cmp (key_at part dropped live (get_or row j d)) (key_at part dropped live (get_or row i d)) ≡ Equal
        → i ≡ j
    one_place i j d h g tie back = elim (cases_lt i j) [
      | inl lt ↦ absurd (not_less_and_equal _ (is.rises i j d lt g) tie)
      | inr le ↦ elim (cases_lt j i) [
        | inl lt ↦ absurd (not_less_and_equal _ (is.rises j i d lt h) back)
        | inr ge ↦ omega (arith, le, ge)
      ]
    ]

    -- so each index, and each part, stands in one slot
    pub one_index : (i j : ℕ) (d : Slot) → i < length row → j < length row
        → index_of dropped (get_or row i d) ≡ index_of dropped (get_or row j d) → i ≡ j
    one_index i j d h g same =
        let first : Contains row (get_or row i d) = (i, h, get_or_default row i (get_or row i d) d h) in
        let second : Contains row (get_or row j d) = (j, g, get_or_default row j (get_or row j d) d g) in
        one_place i j d h g (alike _ _ first second same) (alike _ _ second first (sym same))

    pub one_slot : (s t : Slot) → Contains row s → Contains row t
        → part_at part dropped live (index_of dropped s) ≡ part_at part dropped live (index_of dropped t)
        → index_of dropped s ≡ index_of dropped t
    one_slot s t c e same =
        let first : get_or row c.0 s ≡ s = c.2 in
        let second : get_or row e.0 s ≡ t = get_or_default row e.0 s t e.1 ∙ e.2 in
        let place : c.0 ≡ e.0 =
        one_place c.0 e.0 s c.1 e.1
        ((λ i. key_cmp (key_at part dropped live (first i)) (key_at part dropped live (second i)))
        ∙ tied_parts s t c e same)
        ((λ i. key_cmp (key_at part dropped live (second i)) (key_at part dropped live (first i)))
        ∙ tied_parts t s e c (sym same)) in
        ap (λ (x : Slot). index_of dropped x) (sym first ∙ ap (λ (i : ℕ). get_or row i s) place ∙ second)

    module _ (index p : ℕ) (at : HasIndexAt dropped row index p) (slot : Slot) (read : slot ≡ get_or row p slot) where
      went : IsPermutation row (slot ∷ remove row p)
      went = IsPermutation-remove row p slot at.within read

      of_index : index_of dropped slot ≡ index
      of_index = ap (λ (x : Slot). index_of dropped x) read ∙ at.is slot

      only_left : (s : Slot) → Contains (remove row p) s → Contains row s
      only_left s c = Contains-permutation (slot ∷ remove row p) row s
          (IsPermutation-sym row (slot ∷ remove row p) went) (contains_more (remove row p) slot s c)

      pub row_removed : IsRow part dropped live (remove row p)
      row_removed = record {
        slots = λ s c. is.slots s (only_left s c);
        rises = all_pairs_remove
            (λ a b. key_cmp (key_at part dropped live a) (key_at part dropped live b) ≡ Less) row p at.within is.rises;
      }

      -- its position in the row, which isn't that of the one that went
      was : (s : Slot) → Contains (remove row p) s → (j : ℕ) × (j < length row) × (get_or row j s ≡ s) × (j ≡ p → ⊥)
      was s c =
          let long = length-remove row p at.within in
          elim (cases_lt c.0 p) [
            | inl lt ↦ (
              c.0,
              omega (arith, lt, at.within),
              sym (get_or-remove_below row p s c.0 lt at.within) ∙ c.2,
              λ e. omega (arith, e, lt),
            )
            | inr le ↦ (
              c.0 + 1,
              omega (arith, c.1, long, at.within),
              sym (get_or-remove_above row p s c.0 le at.within) ∙ c.2,
              λ e. omega (arith, e, le),
            )
          ]

      pub leaves_removed : Leaves dropped row (remove row p) index
      leaves_removed = record {
        kept = λ s c ne. elim (contains_either (remove row p) slot s
            (Contains-permutation row (slot ∷ remove row p) s went c)) [
              | inl e ↦ absurd (ne (sym (ap (λ (x : Slot). index_of dropped x) e) ∙ of_index))
              | inr left ↦ left
            ];
        only = only_left;
        gone = λ s c e.
            let w = was s c in
            let here : Contains row (get_or row p s) =
            (p, at.within, get_or_default row p (get_or row p s) s at.within) in
            let there : Contains row (get_or row w.0 s) =
            (w.0, w.1, get_or_default row w.0 (get_or row w.0 s) s w.1) in
            let same : index_of dropped (get_or row w.0 s) ≡ index_of dropped (get_or row p s) =
            ap (λ (x : Slot). index_of dropped x) w.2 ∙ e ∙ sym (at.is s) in
            w.3 (one_place w.0 p s w.1 at.within (alike _ _ there here same) (alike _ _ here there (sym same)));
      }

    -- ---- where an index stands

    module _ (index : ℕ) (k : Key) (f : Field) (part_is : k.field ≡ part_of part f) (hashed : k.hash ≡ hash_of part f)
        (sought : k.field ≡ part_at part dropped live index) where
      tied : (j : ℕ) (d : Slot) → j < length row → index_of dropped (get_or row j d) ≡ index
          → key_cmp (key_at part dropped live (get_or row j d)) k ≡ Equal
      tied j d h e =
          ties part dropped live row is k f part_is hashed (get_or row j d)
          (j, h, get_or_default row j (get_or row j d) d h)
          (ap (λ (i : ℕ). part_at part dropped live i) e ∙ sym sought)

      -- another index has its part
      pub other_there : (p : ℕ) (slot : Slot) → IsMatch part dropped live row k p → slot ≡ get_or row p slot
          → (index_of dropped slot ≡ index → ⊥) → HasNoIndex dropped row index
      other_there p slot at read ne = λ j d h e.
          let one : key_at part dropped live (get_or row j d) ≡ key_at part dropped live (get_or row p d) =
          same_key _ k (tied j d h e) ∙ sym (same_key _ k (at.equal d)) in
          let tie : key_cmp (key_at part dropped live (get_or row j d)) (key_at part dropped live (get_or row p d))
          ≡ Equal =
          tie_of _ _ (ap (λ (x : Key). x.hash) one) (ap (λ (x : Key). x.field) one) in
          let back : key_cmp (key_at part dropped live (get_or row p d)) (key_at part dropped live (get_or row j d))
          ≡ Equal =
          tie_of _ _ (sym (ap (λ (x : Key). x.hash) one)) (sym (ap (λ (x : Key). x.field) one)) in
          let place : j ≡ p = one_place j p d h at.within tie back in
          ne (ap (λ (x : Slot). index_of dropped x) (read ∙ get_or_default row p slot d at.within
          ∙ ap (λ (i : ℕ). get_or row i d) (sym place)) ∙ e)

      -- no index has it
      pub none_there : (p : ℕ) → IsGap part dropped live row k p → HasNoIndex dropped row index
      none_there p at = λ j d h e.
          found_none part dropped live row is k f part_is hashed p at (get_or row j d)
          (j, h, get_or_default row j (get_or row j d) d h)
          (ap (λ (i : ℕ). part_at part dropped live i) e ∙ sym sought)

-- ---- as the code enters

-- the slot of a live index
module _ (part : Part) (dropped : ℕ) (es : List Entry) (index hash : ℕ)
    (live : (dropped < index) × (index ≤ dropped + length es)) (few : length es < 2 ^ 32) where
  pub index_entered : index_of dropped (slot_of hash index) ≡ index
  index_entered = index_made dropped index hash live.0 (omega (arith, live.1, few))

  pub slot_entered : (f : Field) → part_of part f ≡ part_at part dropped (live_fields es) index
      → hash ≡ hash_of part f → IsSlot part dropped (live_fields es) (slot_of hash index)
  slot_entered f same hashed = (
    (omega (arith, index_entered, live.0), omega (arith, index_entered, live.1, fields_long es)),
    hashed ∙ same_hash part f (field_at dropped (live_fields es) index) same
        ∙ ap (λ (a : ℕ). hash_of part (field_at dropped (live_fields es) a)) (sym index_entered),
  )

  pub key_entered : (f : Field) → f ≡ part_at part dropped (live_fields es) index
      → (let k : Key = record { hash = hash; field = f } in
      key_at part dropped (live_fields es) (slot_of hash index) ≡ k)
  key_entered f same =
      let there : part_at part dropped (live_fields es) (index_of dropped (slot_of hash index)) ≡ f =
      ap (λ (a : ℕ). part_at part dropped (live_fields es) a) index_entered ∙ sym same in
      λ i. record { hash = hash; field = there i }
