-- A row after a change of the entries.
use Rattle.std.proofs.Common.{◌≡◌, ℕ, ◌+◌, ◌-◌, ◌<◌, [], ◌∷◌, ◌++◌, List, length, get_or, drop, sym, ap}
use Rattle.std.proofs.Common.{◌∙◌, inl, inr, arith}
use Rattle.std.specs.Prelude.{Contains}
use Rattle.std.proofs.lemmas.Bool.{cases_lt}
use Rattle.std.proofs.lemmas.List.{length-drop, length-append, get_or-drop, get_or_append_left, get_or_default}
use Rattle.qpack_spec.specs.Field.{Field}
use Rattle.qpack_table.specs.Rows.{Key, key_cmp, part_of, hash_of, field_at, index_of, IsLiveIndex, IsRow}
use Rattle.qpack_table.specs.declared.dynamic.comparing.Part.{Part}
use Rattle.qpack_table.specs.declared.dynamic.index.row.Slot.{Slot}
use Rattle.qpack_table.proofs.SlotIndexes.{index_kept}

-- a row whose slots' entries keep their fields
still_row : (part : Part) (dropped from : ℕ) (live now : List Field) (row : List Slot) → IsRow part dropped live row
    → ((s : Slot) → Contains row s → IsLiveIndex from now (index_of from s))
    → ((s : Slot) → Contains row s → field_at from now (index_of from s) ≡ field_at dropped live (index_of dropped s))
    → IsRow part from now row
still_row part dropped from live now row is there same = record {
  slots = λ s c. (there s c, (is.slots s c).1 ∙ ap (λ (f : Field). hash_of part f) (sym (same s c)));
  rises = λ i j d lt within.
      let first = same (get_or row i d) (at i d (omega (arith, lt, within))) in
      let second = same (get_or row j d) (at j d within) in
      (λ t. key_cmp (key (get_or row i d) (first t)) (key (get_or row j d) (second t)))
      ∙ is.rises i j d lt within;
}
  where
    key : Slot → Field → Key
    key s f = record { hash = s.hash; field = part_of part f }

    at : (j : ℕ) (d : Slot) → j < length row → Contains row (get_or row j d)
    at j d h = (j, h, get_or_default row j (get_or row j d) d h)

-- ---- an entry comes after the newest

pub field_pushed : (dropped : ℕ) (live : List Field) (f : Field) (a : ℕ) → IsLiveIndex dropped live a
    → field_at dropped (live ++ f ∷ []) a ≡ field_at dropped live a
field_pushed dropped live f a at =
    get_or_append_left live (f ∷ []) (record { name = []; value = [] }) (a - dropped - 1) (omega (arith, at.0, at.1))

pub row_pushed : (part : Part) (dropped : ℕ) (live : List Field) (f : Field) (row : List Slot)
    → IsRow part dropped live row → IsRow part dropped (live ++ f ∷ []) row
row_pushed part dropped live f row is =
    still_row part dropped dropped live (live ++ f ∷ []) row is
    (λ s c. let at = is.slots s c in (at.0.0, omega (arith, at.0.1, length-append live (f ∷ []))))
    (λ s c. field_pushed dropped live f (index_of dropped s) (is.slots s c).0)

-- ---- an eviction

pub drop_field : (dropped : ℕ) (live : List Field) (a : ℕ) → dropped + 1 < a
    → field_at (dropped + 1) (drop 1 live) a ≡ field_at dropped live a
drop_field dropped live a h =
    let none : Field = record { name = []; value = [] } in
    let position : 1 + (a - (dropped + 1) - 1) ≡ a - dropped - 1 = omega (arith, h) in
    get_or-drop 1 live (a - (dropped + 1) - 1) none ∙ ap (λ (i : ℕ). get_or live i none) position

-- a live index that isn't the oldest
pub above_oldest : (part : Part) (dropped : ℕ) (live : List Field) (row : List Slot) → IsRow part dropped live row
    → (s : Slot) → Contains row s → (index_of dropped s ≡ dropped + 1 → ⊥) → dropped + 1 < index_of dropped s
above_oldest part dropped live row is s c ne = elim (cases_lt (dropped + 1) (index_of dropped s)) [
  | inl lt ↦ lt
  | inr le ↦ absurd (ne (omega (arith, le, (is.slots s c).0.0)))
]

-- a row without the oldest index, once that is dropped
pub row_without_oldest : (part : Part) (dropped : ℕ) (live : List Field) (row : List Slot) → 0 < length live
    → IsRow part dropped live row → ((s : Slot) → Contains row s → index_of dropped s ≡ dropped + 1 → ⊥)
    → IsRow part (dropped + 1) (drop 1 live) row
row_without_oldest part dropped live row some is gone =
    still_row part dropped (dropped + 1) live (drop 1 live) row is
    (λ s c.
    let at = is.slots s c in
    let above = above_oldest part dropped live row is s c (gone s c) in
    let same = index_kept dropped s above in
    (omega (arith, same, above), omega (arith, same, at.0.1, length-drop 1 live, some)))
    (λ s c.
    let above = above_oldest part dropped live row is s c (gone s c) in
    ap (λ (a : ℕ). field_at (dropped + 1) (drop 1 live) a) (index_kept dropped s above)
    ∙ drop_field dropped live (index_of dropped s) above)
