-- A property of a draft that each kind of step keeps is kept by any choices.
use Rattle.std.proofs.Common.{ℕ, ◌-◌, ◌<◌, ◌≡◌, Bool, true, List, [], ◌∷◌, length, Option, None, Some, refl, arith}
use Rattle.std.specs.List.{AllByRecursion, slice_get}
use Rattle.std.specs.Prelude.{nat_lt, ◌&&◌}
use Rattle.std.proofs.lemmas.Bool.{cond_both, and_parts, ltb-true}
use Rattle.std.proofs.lemmas.Option.{slice_get_within}
use Rattle.std.proofs.lemmas.List.{length-map}
use Rattle.qpack_spec.specs.Chosen.{Choice, Alone, References, Names, Inserts, Naming, Chosen}
use Rattle.qpack_spec.specs.Chosen.{some_passes, passes_at, instruction_naming}
use Rattle.qpack_spec.specs.Chosen.{literal_alone, line_alone, entry_reference_line, named_or, literal_chosen}
use Rattle.qpack_spec.specs.Chosen.{line_chosen, with_unreferenced_entry, unreferenced_chosen, chosen_field}
use Rattle.qpack_spec.specs.Chosen.{chosen_fields, alone_chosen}
use Rattle.qpack_spec.specs.Field.{Field, FieldLine, fields_of_lines, has_name, is_field}
use Rattle.qpack_spec.specs.Line.{IndexedStatic, NamedStatic, Literal}
use Rattle.qpack_spec.specs.Rule.{Draft, with_line, with_referencing_line, with_inserted, name_reference_line}
use Rattle.qpack_spec.specs.StaticTable.{static_index, static_name_index}
use Rattle.qpack_spec.specs.Table.{Table, Entry, fields_in, has_room, below_limit, may_reference}
use Rattle.qpack_spec.proofs.Positions.{FoundEntry}

-- ---- an entry at an index

pub found_at : (t : Table) (p : Field → Bool) (a : ℕ) → passes_at t p a ≡ true → FoundEntry t p a
found_at t p a h =
    let q = and_parts (nat_lt t.dropped a) _ h in
    pick (ltb-true _ _ q.0) (slice_get (fields_in t.live) (a - t.dropped - 1)) refl q.1
  where
    pick : t.dropped < a → (o : Option Field) → slice_get (fields_in t.live) (a - t.dropped - 1) ≡ o
        → some_passes p o ≡ true → FoundEntry t p a
    pick above None e k = absurd cc
    pick above (Some f) e k =
        let lt : a - t.dropped - 1 < length (fields_in t.live) =
        slice_get_within (fields_in t.live) (a - t.dropped - 1) f e in
        let n : length (fields_in t.live) ≡ length t.live = length-map t.live (λ (x : Entry). x.field) in
        record {
          item = f;
          position = a - t.dropped - 1;
          index = omega (arith, above);
          there = e;
          passes = k;
          above = above;
          within = omega (arith, above, lt, n);
        }

-- one field by its two cases
pub field_by : (P : Draft → Type 0) (base : ℕ) (d : Draft) (l : FieldLine) (c : Chosen)
    → P (literal_chosen base d l.field c.line)
    → P (unreferenced_chosen c.names c.unreferenced (line_chosen c.names base d l.field c.line) l.field)
    → P (chosen_field base d l c)
field_by P base d l c marked plain =
    cond_both l.never_indexed (literal_chosen base d l.field c.line)
    (unreferenced_chosen c.names c.unreferenced (line_chosen c.names base d l.field c.line) l.field) P (λ _. marked) (λ _. plain)

-- ---- what each kind of step keeps

-- a property of a draft that each of seven steps keeps: a line without an entry in three forms, a line by an entry in two,
-- and an insertion, referenced or not
pub record IsKept (P : Draft → Type 0) (base : ℕ) (f : Field) : Type 0 where
  pub static_line : (d : Draft) (i : ℕ) → static_index f ≡ Some i → P d → P (with_line d (IndexedStatic i))
  pub static_name : (d : Draft) (i : ℕ) → static_name_index f.name ≡ Some i → P d
      → P (with_line d (NamedStatic i f.value))
  pub literal : (d : Draft) → P d → P (with_line d (Literal f.name f.value))
  pub entry : (d : Draft) (a : ℕ) → FoundEntry d.table (is_field f) a → may_reference d.table a ≡ true → P d
      → P (with_referencing_line d a (entry_reference_line base a))
  pub name : (d : Draft) (a : ℕ) → FoundEntry d.table (has_name f.name) a → may_reference d.table a ≡ true → P d
      → P (with_referencing_line d a (name_reference_line base a f))
  pub insertion : (d : Draft) (names : Naming) → below_limit d.table ≡ true → has_room d.table f ≡ true → P d
      → P (with_inserted base d f (instruction_naming names d.table f))
  pub unreferenced : (d : Draft) (names : Naming) → has_room d.table f ≡ true → P d
      → P (with_unreferenced_entry names d f)

kept_literal_alone : (P : Draft → Type 0) (base : ℕ) (d : Draft) (f : Field) → IsKept P base f → P d → (o : Option ℕ)
    → static_name_index f.name ≡ o → P (literal_alone d f o)
kept_literal_alone P base d f k h None e = k.literal d h
kept_literal_alone P base d f k h (Some i) e = k.static_name d i e h

kept_line_alone : (P : Draft → Type 0) (base : ℕ) (d : Draft) (f : Field) → IsKept P base f → P d → (o : Option ℕ)
    → static_index f ≡ o → P (line_alone d f o)
kept_line_alone P base d f k h None e = kept_literal_alone P base d f k h (static_name_index f.name) refl
kept_line_alone P base d f k h (Some i) e = k.static_line d i e h

kept_named_or : (P : Draft → Type 0) (base : ℕ) (d other : Draft) (f : Field) (a : ℕ) → IsKept P base f → P d → P other
    → P (named_or base d f a other)
kept_named_or P base d other f a k h o =
    cond_both (passes_at d.table (has_name f.name) a && may_reference d.table a)
    (with_referencing_line d a (name_reference_line base a f)) other P
    (λ t. let p = and_parts (passes_at d.table (has_name f.name) a) (may_reference d.table a) t in
    k.name d a (found_at d.table (has_name f.name) a p.0) p.1 h) (λ _. o)

kept_literal_chosen : (P : Draft → Type 0) (base : ℕ) (d : Draft) (f : Field) (c : Choice) → IsKept P base f → P d
    → P (literal_chosen base d f c)
kept_literal_chosen P base d f Alone k h = kept_literal_alone P base d f k h (static_name_index f.name) refl
kept_literal_chosen P base d f (References a) k h = kept_literal_alone P base d f k h (static_name_index f.name) refl
kept_literal_chosen P base d f (Names a) k h =
    kept_named_or P base d (literal_alone d f (static_name_index f.name)) f a k h
    (kept_literal_alone P base d f k h (static_name_index f.name) refl)
kept_literal_chosen P base d f Inserts k h = kept_literal_alone P base d f k h (static_name_index f.name) refl

kept_line_chosen : (P : Draft → Type 0) (names : Naming) (base : ℕ) (d : Draft) (f : Field) (c : Choice)
    → IsKept P base f → P d → P (line_chosen names base d f c)
kept_line_chosen P names base d f Alone k h = kept_line_alone P base d f k h (static_index f) refl
kept_line_chosen P names base d f (References a) k h =
    cond_both (passes_at d.table (is_field f) a && may_reference d.table a)
    (with_referencing_line d a (entry_reference_line base a)) (line_alone d f (static_index f)) P
    (λ t. let p = and_parts (passes_at d.table (is_field f) a) (may_reference d.table a) t in
    k.entry d a (found_at d.table (is_field f) a p.0) p.1 h)
    (λ _. kept_line_alone P base d f k h (static_index f) refl)
kept_line_chosen P names base d f (Names a) k h =
    kept_named_or P base d (line_alone d f (static_index f)) f a k h
    (kept_line_alone P base d f k h (static_index f) refl)
kept_line_chosen P names base d f Inserts k h =
    cond_both (below_limit d.table && has_room d.table f) (with_inserted base d f (instruction_naming names d.table f))
    (line_alone d f (static_index f)) P
    (λ t. let p = and_parts (below_limit d.table) (has_room d.table f) t in k.insertion d names p.0 p.1 h)
    (λ _. kept_line_alone P base d f k h (static_index f) refl)

pub kept_unreferenced_chosen : (P : Draft → Type 0) (names : Naming) (base : ℕ) (unreferenced : Bool) (d : Draft)
    (f : Field) → IsKept P base f → P d → P (unreferenced_chosen names unreferenced d f)
kept_unreferenced_chosen P names base unreferenced d f k h =
    cond_both (unreferenced && has_room d.table f) (with_unreferenced_entry names d f) d P
    (λ t. k.unreferenced d names (and_parts unreferenced (has_room d.table f) t).1 h) (λ _. h)

kept_chosen_field : (P : Draft → Type 0) (base : ℕ) (d : Draft) (l : FieldLine) (c : Chosen)
    → IsKept P base l.field → P d → P (chosen_field base d l c)
kept_chosen_field P base d l c k h =
    field_by P base d l c (kept_literal_chosen P base d l.field c.line k h)
    (kept_unreferenced_chosen P c.names base c.unreferenced (line_chosen c.names base d l.field c.line) l.field k
    (kept_line_chosen P c.names base d l.field c.line k h))

pub kept_chosen_fields : (P : Draft → Type 0) (base : ℕ) (d : Draft) (ls : List FieldLine) (cs : List Chosen)
    → AllByRecursion (IsKept P base) (fields_of_lines ls) → P d → P (chosen_fields base d ls cs)
kept_chosen_fields P base d [] cs k h = h
kept_chosen_fields P base d (l ∷ ls) [] k h =
    kept_chosen_fields P base (chosen_field base d l alone_chosen) ls [] k.1
    (kept_chosen_field P base d l alone_chosen k.0 h)
kept_chosen_fields P base d (l ∷ ls) (c ∷ cs) k h =
    kept_chosen_fields P base (chosen_field base d l c) ls cs k.1 (kept_chosen_field P base d l c k.0 h)

pub every_kept : (P : Draft → Type 0) (base : ℕ) (fs : List Field) → ((f : Field) → IsKept P base f)
    → AllByRecursion (IsKept P base) fs
every_kept P base [] k = tt
every_kept P base (f ∷ fs) k = (k f, every_kept P base fs k)
