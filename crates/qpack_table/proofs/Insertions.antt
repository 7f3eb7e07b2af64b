-- How a field is inserted, and what finding it answers, by cases.
use Rattle.std.proofs.Common.{◌≡◌, ℕ, ◌+◌, ◌-◌, ◌^◌, ◌<◌, ◌≤◌, Bool, true, false, length, drop, Option, None, Some}
use Rattle.std.proofs.Common.{refl, ap, subst, ◌∙◌, arith, inl, inr, Result, Ok, Err, ◌&&◌}
use Rattle.std.specs.Prelude.{IfOk, IfErr, OnOk}
use Rattle.std.proofs.lemmas.Bool.{cases_lt, le-ltb, lt-leb, le-leb}
use Rattle.std.proofs.lemmas.List.{length-map, length-drop}
use Rattle.qpack_spec.specs.Chosen.{Naming, passed_over}
use Rattle.qpack_spec.specs.Field.{Field, field_size, has_name, is_field}
use Rattle.qpack_spec.specs.StaticTable.{static_name_index}
use Rattle.qpack_spec.specs.Table as table
use Rattle.qpack_spec.specs.Table.{Table, fields_in, insert_count, newest_index, last_position, has_room, below_limit}
use Rattle.qpack_spec.specs.Table.{eviction_count_for, with_reference, with_entry, sent_entry}
use Rattle.qpack_spec.specs.Rule.{instruction_for, entries_left}
use Rattle.qpack_spec.specs.Handle as handle
use Rattle.qpack_spec.specs.Handle.{answer_of, find_field, found_entry, insert_field, found_name, found_instead}
use Rattle.qpack_spec.specs.Handle.{Insertion, Found}
use Rattle.qpack_spec.specs.Instruction.{EncoderInstruction, InsertStaticName, InsertDynamicName, InsertLiteralName}
use Rattle.qpack_spec.specs.Instruction.{Duplicate, SetCapacity}
use Rattle.qpack_spec.proofs.Drafts.{room, passed_live}
use Rattle.qpack_spec.proofs.Windows.{eviction_count_push}
use Rattle.qpack_table.specs.Handles.{Finds, Inserts, InsertsOrHandsOut, insertion_of}
use Rattle.qpack_table.specs.declared.dynamic.Error.TheVariants.{Memory}
use Rattle.qpack_table.specs.declared.dynamic.encoder.DynamicInsertionResult.{DynamicInsertionResult}
use Rattle.qpack_table.specs.declared.dynamic.encoder.DynamicInsertionResult.TheVariants.{NotInserted}
use Rattle.qpack_table.specs.declared.dynamic.Error.{Error}
use Rattle.qpack_table.specs.declared.dynamic.encoder.DynamicLookupResult.{DynamicLookupResult}
use Rattle.qpack_table.proofs.Newest.{Stays}

pub found_by : (r : Result DynamicLookupResult Error) (t new : Table) (base : ℕ) (f : Field) (newest : Option ℕ)
    → newest ≡ newest_index t (is_field f) → Finds r (found_entry t base newest) t new
    → Finds r (find_field t base f) t new
unfolding find_field
found_by r t new base f newest is h = subst (λ (o : Option ℕ). Finds r (found_entry t base o) t new) is h

-- what stays, as many as are not evicted
staying : (t : Table) (gone : ℕ) → length (drop gone (fields_in t.live)) ≡ length t.live - gone
staying t gone = length-drop gone (fields_in t.live)
    ∙ ap (λ (n : ℕ). n - gone) (length-map t.live (λ (e : table.Entry). e.field))

relative_is : (t : Table) (p : Field → Bool) (gone a total : ℕ) (s : Stays t p gone a) → gone ≤ length t.live
    → total ≡ insert_count t → length (drop gone (fields_in t.live)) - 1 - s.position ≡ total - a
relative_is t p gone a total s few all = omega (arith, staying t gone, s.within, s.is, few, all)

pub as_duplicate : (t : Table) (f : Field) (gone a total base postbase absolute : ℕ) → Stays t (is_field f) gone a
    → gone ≤ length t.live → total ≡ insert_count t → postbase ≡ total - base → absolute ≡ total + 1
    → handle.Duplicated (total - a) postbase absolute
    ≡ answer_of (instruction_for f (drop gone (fields_in t.live))) (insert_count t - base) (insert_count t + 1)
unfolding instruction_for
as_duplicate t f gone a total base postbase absolute s few all behind next =
    rw (s.last, relative_is t (is_field f) gone a total s few all, behind, next, all) refl

pub with_static_name : (t : Table) (f : Field) (gone index total base postbase absolute : ℕ)
    → last_position (is_field f) (drop gone (fields_in t.live)) ≡ None → static_name_index f.name ≡ Some index
    → total ≡ insert_count t → postbase ≡ total - base → absolute ≡ total + 1
    → handle.InsertedWithStaticName postbase index absolute
    ≡ answer_of (instruction_for f (drop gone (fields_in t.live))) (insert_count t - base) (insert_count t + 1)
unfolding instruction_for
with_static_name t f gone index total base postbase absolute none known all behind next =
    rw (none, known, behind, next, all) refl

pub with_entry_name : (t : Table) (f : Field) (gone a total base postbase absolute : ℕ)
    → last_position (is_field f) (drop gone (fields_in t.live)) ≡ None → static_name_index f.name ≡ None
    → Stays t (has_name f.name) gone a → gone ≤ length t.live
    → total ≡ insert_count t → postbase ≡ total - base → absolute ≡ total + 1
    → handle.InsertedWithName (total - a) postbase absolute
    ≡ answer_of (instruction_for f (drop gone (fields_in t.live))) (insert_count t - base) (insert_count t + 1)
unfolding instruction_for
with_entry_name t f gone a total base postbase absolute none unknown s few all behind next =
    rw (none, unknown, s.last, relative_is t (has_name f.name) gone a total s few all, behind, next, all) refl

pub with_own_name : (t : Table) (f : Field) (gone total base postbase absolute : ℕ)
    → last_position (is_field f) (drop gone (fields_in t.live)) ≡ None → static_name_index f.name ≡ None
    → last_position (has_name f.name) (drop gone (fields_in t.live)) ≡ None
    → total ≡ insert_count t → postbase ≡ total - base → absolute ≡ total + 1
    → handle.Inserted postbase absolute
    ≡ answer_of (instruction_for f (drop gone (fields_in t.live))) (insert_count t - base) (insert_count t + 1)
unfolding instruction_for
with_own_name t f gone total base postbase absolute none unknown other all behind next =
    rw (none, unknown, other, behind, next, all) refl

-- ---- what room tells

pub room_fits : (t : Table) (f : Field) → has_room t f ≡ true → field_size f ≤ t.capacity
unfolding has_room
room_fits t f e = elim (cases_lt t.capacity (field_size f)) [
  | inl lt ↦ let no = rw (lt-leb (field_size f) t.capacity lt) at e in absurd cc
  | inr le ↦ le
]

pub room_few : (t : Table) (f : Field) → has_room t f ≡ true → insert_count t < 2 ^ 62
unfolding has_room
room_few t f e = elim (cases_lt (insert_count t) (2 ^ 62)) [
  | inl lt ↦ lt
  | inr le ↦ let no = rw (le-leb (field_size f) t.capacity (room_fits t f e), le-ltb (insert_count t) (2 ^ 62) le)
      at e in
      absurd cc
]

pub room_within : (t : Table) (f : Field) (evicted : ℕ) → has_room t f ≡ true → evicted ≡ eviction_count_for t f
    → evicted ≤ length t.live
room_within t f evicted e is = omega (
  arith,
  is,
  eviction_count_push t.capacity (fields_in t.live) f (room_fits t f e),
  length-map t.live (λ (x : table.Entry). x.field),
)

-- so are the entries that an instruction passes over
pub passed_within : (t : Table) (f : Field) (names : Naming) (evicted passed : ℕ) → has_room t f ≡ true
    → evicted ≡ eviction_count_for t f → passed ≡ passed_over names evicted → passed ≤ length t.live
passed_within t f names evicted passed e is over = omega (
  arith,
  over,
  ap (λ (n : ℕ). passed_over names n) is,
  passed_live t names f (room t f e),
)

-- an entry that stays was inserted
pub stays_inserted : (t : Table) (p : Field → Bool) (gone a total : ℕ) → Stays t p gone a → gone ≤ length t.live
    → total ≡ insert_count t → a ≤ total
stays_inserted t p gone a total s few all = omega (arith, s.within, s.is, few, all)

-- ---- what an insertion answers

pub not_inserted : (t new : Table) (base : ℕ) (f : Field) (lookup : DynamicLookupResult)
    → (below_limit t && has_room t f) ≡ false
    → Finds (Ok lookup) (found_name t base f (static_name_index f.name)) t new
    → Inserts (Ok (NotInserted lookup)) (insert_field t base f) t new
unfolding insert_field
not_inserted t new base f lookup refused h = rw refused (ap (λ (found : Found). found_instead found) h)

pub not_found : (t new : Table) (base : ℕ) (f : Field) (e : Error) → (below_limit t && has_room t f) ≡ false
    → Finds (Err e) (found_name t base f (static_name_index f.name)) t new
    → Inserts (Err e) (insert_field t base f) t new
unfolding insert_field
not_found t new base f e refused h = rw refused (h.0, h.1, h.2)

pub inserted : (t new : Table) (base : ℕ) (f : Field) (r : Result DynamicInsertionResult Error)
    → (below_limit t && has_room t f) ≡ true
    → IfOk r (λ i. insertion_of i
    ≡ answer_of (instruction_for f (entries_left t f)) (insert_count t - base) (insert_count t + 1))
    → OnOk r (new ≡ with_reference (with_entry t (sent_entry f)) (insert_count t + 1))
    → IfErr r (λ e. (e ≡ Memory) × (new ≡ t))
    → Inserts r (insert_field t base f) t new
unfolding insert_field
inserted t new base f (Ok i) taken is now none = rw (taken, is, now) refl
inserted t new base f (Err e) taken is now none = rw taken (none.0, asks (instruction_for f (entries_left t f)), none.1)
  where
    asks : (i : EncoderInstruction)
        → InsertsOrHandsOut (answer_of i (insert_count t - base) (insert_count t + 1))
    asks (InsertStaticName index value) = tt
    asks (InsertDynamicName relative value) = tt
    asks (InsertLiteralName name value) = tt
    asks (Duplicate relative) = tt
    asks (SetCapacity n) = tt
