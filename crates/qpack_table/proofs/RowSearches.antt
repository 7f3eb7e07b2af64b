-- A halving search in a row.
use Rattle.std.proofs.Common.{◌≡◌, ℕ, ◌+◌, ◌-◌, ◌<◌, ◌≤◌, List, [], length, get_or}
use Rattle.std.proofs.Common.{sym, ap, subst, ◌∙◌, inl, inr, arith}
use Rattle.std.specs.Prelude.{Contains}
use Rattle.std.specs.declared.cmp.Ordering.TheVariants.{Less, Equal, Greater}
use Rattle.std.specs.Ordering.{nat_cmp}
use Rattle.std.proofs.lemmas.Bool.{cases_lt}
use Rattle.std.proofs.lemmas.List.{get_or_default}
use Rattle.qpack_spec.specs.Field.{Field}
use Rattle.qpack_table.specs.Rows.{Key, key_cmp, key_at, part_of, part_at, field_at, IsSlot, IsRow, IsMatch}
use Rattle.qpack_table.specs.Rows.{IsGap, hash_of, index_of, Searching}
use Rattle.qpack_table.specs.Tables.{live_fields}
use Rattle.qpack_table.specs.Entries.{Entry}
use Rattle.qpack_table.specs.declared.dynamic.comparing.Part.{Part}
use Rattle.qpack_table.specs.declared.dynamic.index.row.Slot.{Slot}
use Rattle.qpack_table.proofs.RowOrder.{less_through, greater_through, same_part, same_hash, tie_of}
use Rattle.qpack_table.proofs.RowOrder.{not_less_and_equal, not_greater_and_equal, less_hash, greater_hash}
use Rattle.qpack_table.proofs.Lookups.{fields_long, field_read}

-- the slot that is read there
pub slot_at : (row slots : List Slot) (position : ℕ) (d : Slot) → slots ≡ row → position < length row
    → get_or slots position d ≡ get_or row position (get_or slots position d)
slot_at row slots position d same within =
    ap (λ (xs : List Slot). get_or xs position d) same
    ∙ get_or_default row position d (get_or slots position d) within

module _ (part : Part) (dropped : ℕ) (live : List Field) (row : List Slot) (is : IsRow part dropped live row)
    (k : Key) where
  abbrev key : ℕ → Slot → Key
  key j d = key_at part dropped live (get_or row j d)

  pub begins : Searching part dropped live row k 0 (length row)
  begins = record {
    order = omega arith;
    within = omega arith;
    before = λ j d h. absurd (omega (arith, h));
    after = λ j d h lt. absurd (omega (arith, h, lt));
  }

  module _ (low high middle : ℕ) (h : Searching part dropped live row k low high) (from : low ≤ middle)
      (to : middle < high) (slot : Slot) (read : slot ≡ get_or row middle slot) where
    there : (d : Slot) → get_or row middle d ≡ slot
    there d = get_or_default row middle d slot (omega (arith, to, h.within)) ∙ sym read

    pub searching_higher : key_cmp (key_at part dropped live slot) k ≡ Less
        → Searching part dropped live row k (middle + 1) high
    searching_higher less = record {
      order = omega (arith, to);
      within = h.within;
      before = λ j d g. pick j d g;
      after = h.after;
    }
      where
        at : (d : Slot) → key_cmp (key middle d) k ≡ Less
        at d = ap (λ (s : Slot). key_cmp (key_at part dropped live s) k) (there d) ∙ less

        pick : (j : ℕ) (d : Slot) → j < middle + 1 → key_cmp (key j d) k ≡ Less
        pick j d g = elim (cases_lt j middle) [
          | inl lt ↦ less_through (key j d) (key middle d) k (is.rises j middle d lt (omega (arith, to, h.within)))
              (at d)
          | inr le ↦
              let same : middle ≡ j = omega (arith, le, g) in
              subst (λ (i : ℕ). key_cmp (key i d) k ≡ Less) same (at d)
        ]

    pub searching_lower : key_cmp (key_at part dropped live slot) k ≡ Greater
        → Searching part dropped live row k low middle
    searching_lower greater = record {
      order = from;
      within = omega (arith, to, h.within);
      before = h.before;
      after = λ j d g lt. pick j d g lt;
    }
      where
        at : (d : Slot) → key_cmp (key middle d) k ≡ Greater
        at d = ap (λ (s : Slot). key_cmp (key_at part dropped live s) k) (there d) ∙ greater

        pick : (j : ℕ) (d : Slot) → middle ≤ j → j < length row → key_cmp (key j d) k ≡ Greater
        pick j d g lt = elim (cases_lt middle j) [
          | inl less ↦ greater_through (key middle d) (key j d) k (is.rises middle j d less lt) (at d)
          | inr le ↦
              let same : middle ≡ j = omega (arith, le, g) in
              subst (λ (i : ℕ). key_cmp (key i d) k ≡ Greater) same (at d)
        ]

    -- where hashes alone decide
    pub looked_higher : nat_cmp slot.hash k.hash ≡ Less → Searching part dropped live row k (middle + 1) high
    looked_higher less = searching_higher (less_hash (key_at part dropped live slot) k less)

    pub looked_lower : nat_cmp slot.hash k.hash ≡ Greater → Searching part dropped live row k low middle
    looked_lower greater = searching_lower (greater_hash (key_at part dropped live slot) k greater)

  pub ends : (low high : ℕ) → Searching part dropped live row k low high → high ≤ low
      → IsGap part dropped live row k low
  ends low high h le = record {
    within = omega (arith, h.order, h.within);
    before = h.before;
    after = λ j d g lt. h.after j d (omega (arith, le, g)) lt;
  }

  -- the slot that was read in the middle
  pub slot_read : (middle : ℕ) (slot : Slot) → middle < length row → slot ≡ get_or row middle slot
      → IsSlot part dropped live slot
  slot_read middle slot lt read = is.slots slot (middle, lt, sym read)

-- the entry of a slot that is compared has the field of its index
pub entry_part : (part : Part) (dropped : ℕ) (es : List Entry) (index : ℕ) (e : Entry)
    → (dropped < index) × (index ≤ dropped + length (live_fields es)) → e ≡ get_or es (index - dropped - 1) e
    → part_of part e.field ≡ part_at part dropped (live_fields es) index
entry_part part dropped es index e live read =
    let none : Field = record { name = []; value = [] } in
    ap (λ (f : Field). part_of part f)
    (sym (field_read es (index - dropped - 1) e none (omega (arith, live.0, live.1, fields_long es)) read))

-- ---- what was found

module _ (part : Part) (dropped : ℕ) (live : List Field) (row : List Slot) (is : IsRow part dropped live row)
    (k : Key) (f : Field) (part_is : k.field ≡ part_of part f) (hashed : k.hash ≡ hash_of part f) where
  -- a slot with what is sought ties with it
  pub ties : (s : Slot) → Contains row s → part_at part dropped live (index_of dropped s) ≡ k.field
      → key_cmp (key_at part dropped live s) k ≡ Equal
  ties s c same =
      tie_of (key_at part dropped live s) k
      ((is.slots s c).1 ∙ same_hash part (field_at dropped live (index_of dropped s)) f (same ∙ part_is) ∙ sym hashed) same

  -- where nothing was found, no slot has it
  pub found_none : (position : ℕ) → IsGap part dropped live row k position → (s : Slot) → Contains row s
      → part_at part dropped live (index_of dropped s) ≡ k.field → ⊥
  found_none position at s c same =
      let tie : key_cmp (key_at part dropped live (get_or row c.0 s)) k ≡ Equal =
      ap (λ (x : Slot). key_cmp (key_at part dropped live x) k) c.2 ∙ ties s c same in
      elim (cases_lt c.0 position) [
        | inl lt ↦ not_less_and_equal _ (at.before c.0 s lt) tie
        | inr le ↦ not_greater_and_equal _ (at.after c.0 s le c.1) tie
      ]

pub found_some : (part : Part) (dropped : ℕ) (live : List Field) (row : List Slot) (k : Key) (position index : ℕ)
    (slot : Slot) → IsMatch part dropped live row k position → slot ≡ get_or row position slot
    → index ≡ index_of dropped slot
    → (s : Slot) × Contains row s × (index_of dropped s ≡ index) × (part_at part dropped live index ≡ k.field)
found_some part dropped live row k position index slot at read is =
    let tie : key_cmp (key_at part dropped live slot) k ≡ Equal =
    ap (λ (x : Slot). key_cmp (key_at part dropped live x) k) read ∙ at.equal slot in (
      slot,
      (position, at.within, sym read),
      sym is,
      ap (λ (i : ℕ). part_at part dropped live i) is ∙ same_part (key_at part dropped live slot) k tie,
    )
