-- The newest entry that passes, as the definitions find it.
use Rattle.std.proofs.Common.{◌≡◌, ℕ, zero, suc, ◌+◌, ◌-◌, ◌<◌, ◌≤◌, Bool, true, false, [], ◌∷◌, List, length, get_or}
use Rattle.std.proofs.Common.{Option, None, Some, refl, sym, ap, subst, ◌∙◌, map, eqb, eqb-true, arith}
use Rattle.std.specs.Prelude.{slice_index_or, Contains}
use Rattle.std.specs.Option.{option_map}
use Rattle.std.specs.Ordering.{is_eq}
use Rattle.std.proofs.lemmas.List.{length-map, get_or_default, get_or-map}
use Rattle.std.proofs.lemmas.Map.Steps.{length-le_from_distinct_below}
use Rattle.std.proofs.lemmas.Map.Keys.{IsDistinct-from_apart}
use Rattle.std.proofs.lemmas.Map.Views.{Contains-from_any}
use Rattle.std.proofs.lemmas.Slice.Eq.{bytes_eq-Decides}
use Rattle.std.proofs.lemmas.Option.{get_or_from_slice_get}
use Rattle.qpack_spec.specs.Field.{Field, is_field, has_name}
use Rattle.qpack_spec.specs.Table as table
use Rattle.qpack_spec.specs.Table.{Table, fields_in, later_position, last_position, newest_index}
use Rattle.qpack_spec.proofs.Positions.{newest_found, same_field, same_name}
use Rattle.qpack_base.proofs.FieldOrder.{equal_is_field}
use Rattle.qpack_table.specs.Tables.{entries_of, live_fields}
use Rattle.qpack_table.specs.Rows.{field_at, index_of, part_of, part_at, IsLiveIndex, IsRow, IsRowOf, FindsSlot}
use Rattle.qpack_table.specs.Indexes.{FindsNewest, IsNewestIn}
use Rattle.qpack_table.specs.Entries.{Entry}
use Rattle.qpack_table.specs.declared.dynamic.comparing.Part.{Part}
use Rattle.qpack_table.specs.declared.dynamic.comparing.Part.TheVariants.{Name, Whole}
use Rattle.qpack_table.specs.declared.dynamic.index.row.Slot.{Slot}
use Rattle.qpack_table.proofs.RowOrder.{equal_when_same}
use Rattle.qpack_table.proofs.RowSlots.{one_slot, one_index}

-- the last position is at least that of each element that passes
record LastFrom {X : Type 0} (p : X → Bool) (xs : List X) (i : ℕ) : Type 0 where
  pub position : ℕ
  pub is : last_position p xs ≡ Some position
  pub least : i ≤ position

later_some : (o : Option ℕ) (b : Bool) → b ≡ true → (j : ℕ) × (later_position o b ≡ Some j)
later_some None true e = (0, refl)
later_some None false e = absurd cc
later_some (Some i) b e = (suc i, refl)

last_from : {X : Type 0} (p : X → Bool) (xs : List X) (i : ℕ) (d : X) → i < length xs → p (get_or xs i d) ≡ true
    → LastFrom p xs i
unfolding last_position
last_from p [] i d h e = absurd (omega (arith, h))
last_from p (x ∷ xs) zero d h e =
    let s = later_some (last_position p xs) (p x) e in record { position = s.0; is = s.1; least = omega arith }
last_from p (x ∷ xs) (suc i) d h e =
    let r = last_from p xs i d (omega (arith, h)) e in
    record {
      position = suc r.position;
      is = ap (λ (o : Option ℕ). later_position o (p x)) r.is;
      least = omega (arith, r.least);
    }

-- a live index whose field passes
pub record PassesAt (dropped : ℕ) (fields : List Field) (p : Field → Bool) (a : ℕ) : Type 0 where
  pub live : IsLiveIndex dropped fields a
  pub passes : p (field_at dropped fields a) ≡ true

module _ (t : Table) (p : Field → Bool) where
  -- what the definitions find passes
  found_passes : (a : ℕ) → newest_index t p ≡ Some a → PassesAt t.dropped (fields_in t.live) p a
  found_passes a e =
      let at = newest_found t p a e in
      let long : length (fields_in t.live) ≡ length t.live = length-map t.live (λ (x : table.Entry). x.field) in
      let none : Field = record { name = []; value = [] } in
      let position : a - t.dropped - 1 ≡ at.position = omega (arith, at.index) in
      let field : slice_index_or (fields_in t.live) (a - t.dropped - 1) none ≡ at.item =
      ap (λ (i : ℕ). slice_index_or (fields_in t.live) i none) position
      ∙ get_or_from_slice_get (fields_in t.live) at.position at.item none at.there in
      record { live = (at.above, omega (arith, at.within, long)); passes = ap p field ∙ at.passes }

  -- a live index whose field passes is at most what the definitions find
  found_least : (a : ℕ) → PassesAt t.dropped (fields_in t.live) p a → (b : ℕ) × (newest_index t p ≡ Some b) × (a ≤ b)
  unfolding newest_index
  found_least a at =
      let none : Field = record { name = []; value = [] } in
      let within : a - t.dropped - 1 < length (fields_in t.live) = omega (arith, at.live.0, at.live.1) in
      let last = last_from p (fields_in t.live) (a - t.dropped - 1) none within at.passes in (
        t.dropped + last.position + 1,
        ap (λ (o : Option ℕ). option_map (λ i. t.dropped + i + 1) o) last.is,
        omega (arith, last.least, at.live.0),
      )

  newest_is : (a : ℕ) → PassesAt t.dropped (fields_in t.live) p a
      → ((b : ℕ) → PassesAt t.dropped (fields_in t.live) p b → b ≤ a) → newest_index t p ≡ Some a
  newest_is a at most =
      let b = found_least a at in
      let same : b.0 ≡ a = omega (arith, most b.0 (found_passes b.0 b.1), b.2) in
      b.1 ∙ ap Some same

  newest_is_none : ((b : ℕ) → PassesAt t.dropped (fields_in t.live) p b → ⊥) → newest_index t p ≡ None
  newest_is_none nothing = pick (newest_index t p) refl
    where
      pick : (o : Option ℕ) → newest_index t p ≡ o → o ≡ None
      pick None e = refl
      pick (Some a) e = absurd (nothing a (found_passes a e))

module _ (dropped : ℕ) (live : List table.Entry) (p : Field → Bool) where
  same_table : (P : ℕ → List Field → Type 0) (t : Table) → t.dropped ≡ dropped → t.live ≡ live
      → P dropped (fields_in live) → P t.dropped (fields_in t.live)
  same_table P t d l h =
      subst (λ (n : ℕ). P n (fields_in t.live)) (sym d)
      (subst (λ (xs : List table.Entry). P dropped (fields_in xs)) (sym l) h)

  pub newest_at : (a : ℕ) → PassesAt dropped (fields_in live) p a
      → ((b : ℕ) → PassesAt dropped (fields_in live) p b → b ≤ a) → IsNewestIn dropped live p (Some a)
  newest_at a at most = λ t d l.
      newest_is t p a (same_table (λ n fs. PassesAt n fs p a) t d l at)
      (same_table (λ n fs. (b : ℕ) → PassesAt n fs p b → b ≤ a) t d l most)

  pub newest_nowhere : ((b : ℕ) → PassesAt dropped (fields_in live) p b → ⊥) → IsNewestIn dropped live p None
  newest_nowhere nothing = λ t d l.
      newest_is_none t p (same_table (λ n fs. (b : ℕ) → PassesAt n fs p b → ⊥) t d l nothing)

-- where nothing is live, nothing is found
pub none_live : (dropped : ℕ) (es : List Entry) (p : Field → Bool) → (0 < length es → ⊥)
    → IsNewestIn dropped (entries_of es) p None
none_live dropped [] p none =
    newest_nowhere dropped [] p (λ b at. omega (arith, at.live.0, at.live.1))
none_live dropped (e ∷ es) p none = absurd (none (omega arith))

-- ---- the newest entry of a row

passes : (f g : Field) → g ≡ f → is_field f g ≡ true
passes f g e = sym (equal_is_field f g) ∙ ap is_eq (equal_when_same f g (sym e))

-- what a row of all entries answers is the newest of all that have the part
module _ (part : Part) (dropped : ℕ) (live : List Field) (entered : ℕ) (row : List Slot)
    (are : IsRowOf part dropped live entered row) (all : entered ≡ length live) (f : Field) where
  pub newest_found_in : (found : Option ℕ) → FindsSlot part dropped live row (part_of part f) found
      → FindsNewest part dropped live (part_of part f) found
  newest_found_in None h = λ other at same.
      let s = are.complete other at.0 (omega (arith, at.1, all)) in h s.0 s.1 (s.4 ∙ same)
  newest_found_in (Some a) h = (
    subst (λ (i : ℕ). IsLiveIndex dropped live i) h.2 (are.is_row.slots h.0 h.1).0,
    h.3,
    λ other at same.
        let s = are.complete other at.0 (omega (arith, at.1, all)) in
        let one : index_of dropped s.0 ≡ index_of dropped h.0 =
        one_slot part dropped live row are.is_row s.0 h.0 s.1 h.1
        (s.4 ∙ same ∙ sym h.3 ∙ ap (λ (i : ℕ). part_at part dropped live i) (sym h.2)) in
        omega (arith, one, h.2, s.2),
  )

-- where nothing is live, nothing is found
pub newest_of_none : (part : Part) (dropped : ℕ) (live : List Field) (f : Field) → (0 < length live → ⊥)
    → FindsNewest part dropped live f None
newest_of_none part dropped live f none = λ other at same. none (omega (arith, at.0, at.1))

-- what is found by a whole field is what the definitions find
pub newest_field : (seed dropped : ℕ) (es : List Entry) (f : Field) (found : Option ℕ)
    → FindsNewest (Whole seed) dropped (live_fields es) f found → IsNewestIn dropped (entries_of es) (is_field f) found
newest_field seed dropped es f None h =
    newest_nowhere dropped (entries_of es) (is_field f) (λ b at.
    h b at.live (sym (same_field f (field_at dropped (live_fields es) b) at.passes)))
newest_field seed dropped es f (Some a) h =
    newest_at dropped (entries_of es) (is_field f) a
    (record { live = h.0; passes = passes f (field_at dropped (live_fields es) a) h.1 })
    (λ b at. h.2 b at.live (sym (same_field f (field_at dropped (live_fields es) b) at.passes)))

-- and by a name
only_name : (seed : ℕ) (name : List ℕ) (f : Field) → has_name name f ≡ true
    → part_of (Name seed) f ≡ part_of (Name seed) (record { name = name; value = [] })
only_name seed name f h =
    let same : f.name ≡ name = sym (same_name name f h) in
    λ i. record { name = same i; value = [] }

pub newest_name : (seed dropped : ℕ) (es : List Entry) (name : List ℕ) (found : Option ℕ)
    → FindsNewest (Name seed) dropped (live_fields es) (record { name = name; value = [] }) found
    → IsNewestIn dropped (entries_of es) (has_name name) found
newest_name seed dropped es name None h =
    newest_nowhere dropped (entries_of es) (has_name name)
    (λ b at. h b at.live (only_name seed name (field_at dropped (live_fields es) b) at.passes))
newest_name seed dropped es name (Some a) h =
    newest_at dropped (entries_of es) (has_name name) a
    (record {
      live = h.0;
      passes = (bytes_eq-Decides name (field_at dropped (live_fields es) a).name).1
          (sym (ap (λ (f : Field). f.name) h.1));
    })
    (λ b at. h.2 b at.live (only_name seed name (field_at dropped (live_fields es) b) at.passes))

-- ---- a row has no more slots than entries are live

module _ (part : Part) (dropped : ℕ) (live : List Field) (row : List Slot) (is : IsRow part dropped live row) where
  abbrev position : Slot → ℕ
  position s = index_of dropped s - dropped - 1

  position_read : (j d : ℕ) (s : Slot) → j < length row → get_or (map position row) j d ≡ position (get_or row j s)
  position_read j d s h = get_or-map position row j s d h

  there : (j : ℕ) (s : Slot) → j < length row → Contains row (get_or row j s)
  there j s h = (j, h, get_or_default row j (get_or row j s) s h)

  apart : (i j d : ℕ) (s : Slot) → i < j → j < length row
      → eqb (get_or (map position row) i d) (get_or (map position row) j d) ≡ false
  apart i j d s lt within = pick (eqb (get_or (map position row) i d) (get_or (map position row) j d)) refl
    where
      pick : (b : Bool) → eqb (get_or (map position row) i d) (get_or (map position row) j d) ≡ b → b ≡ false
      pick false e = refl
      pick true e =
          let first = there i s (omega (arith, lt, within)) in
          let second = there j s within in
          let places : position (get_or row i s) ≡ position (get_or row j s) =
          sym (position_read i d s (omega (arith, lt, within))) ∙ eqb-true _ _ e ∙ position_read j d s within in
          let same : index_of dropped (get_or row i s) ≡ index_of dropped (get_or row j s) =
          omega (arith, places, (is.slots _ first).0.0, (is.slots _ second).0.0) in
          absurd (omega (arith, lt, one_index part dropped live row is i j s (omega (arith, lt, within)) within same))

  pub row_few : length row ≤ length live
  row_few = few row refl
    where
      few : (xs : List Slot) → row ≡ xs → length row ≤ length live
      few [] e = omega (arith, ap (λ (l : List Slot). length l) e)
      few (s ∷ xs) e =
          let long = length-map row position in
          let bound = length-le_from_distinct_below (map position row) (length live)
          (IsDistinct-from_apart eqb (map position row)
          (λ i j d lt within. apart i j d s lt (omega (arith, within, long))))
          (λ q h. let c = Contains-from_any (λ x y. eqb-true x y) q (map position row) h in
          let lt : c.0 < length row = omega (arith, c.1, long) in
          let at = is.slots _ (there c.0 s lt) in
          let same : q ≡ position (get_or row c.0 s) = sym c.2 ∙ position_read c.0 q s lt in
          omega (arith, same, at.0.0, at.0.1)) in
          omega (arith, bound, long)
