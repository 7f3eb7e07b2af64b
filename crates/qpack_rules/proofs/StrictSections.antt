-- The rule writes nothing that a strict decoder refuses.
use Rattle.std.proofs.Common.{ℕ, ◌-◌, ◌≤◌, ◌≡◌, Bool, false, List, [], ◌∷◌, Option, None, Some, refl, sym, ap, ◌∙◌}
use Rattle.std.proofs.Common.{subst, arith}
use Rattle.std.specs.List.{AllByRecursion}
use Rattle.std.specs.Prelude.{nat_eq, nat_le, ◌&&◌}
use Rattle.std.proofs.Math.Bool.{and-false}
use Rattle.std.proofs.lemmas.Bool.{cond_both, or_right, lt-leb}
use Rattle.qpack_spec.specs.Field.{Field, field_size, has_name, is_field}
use Rattle.qpack_spec.specs.Line.{IndexedDynamic, Literal}
use Rattle.qpack_spec.specs.Prefix.{prefix_for}
use Rattle.qpack_spec.specs.Reading.{greatest_of, references_of}
use Rattle.qpack_spec.specs.Rule.{rule, required_insert_count, Draft, with_line, with_referencing_line, literal}
use Rattle.qpack_spec.specs.Rule.{literal_by_entry, name_reference_line, insertion_or_literal, by_entry, by_static}
use Rattle.qpack_spec.specs.Rule.{rule_field, rule_fields, empty_draft}
use Rattle.qpack_spec.specs.StaticTable.{static_index, static_name_index}
use Rattle.qpack_spec.specs.Table.{Table, insert_count, with_reference, has_room, below_limit, may_reference}
use Rattle.qpack_spec.specs.Table.{newest_index, without_references}
use Rattle.qpack_spec.specs.Window.{maximum_capacity}
use Rattle.qpack_spec.specs.StrictLaws.{WrittenSectionsAreStrict, NothingIsInsertedAtZero}
use Rattle.qpack_spec.proofs.Prefixes.{written_not_below}
use Rattle.qpack_spec.proofs.References.{blocks_require}

all_below : (n : ℕ) (xs : List ℕ) → greatest_of xs ≤ n → AllByRecursion (λ a. a ≤ n) xs
unfolding greatest_of
all_below n [] h = tt
all_below n (a ∷ xs) h = (omega (arith, h), all_below n xs (omega (arith, h)))

no_count : (required base : ℕ) → (prefix_for 0 required base).count ≡ 0
unfolding prefix_for
no_count required base = rw (or_right (nat_eq required 0) (nat_eq 0 0) refl) refl

pub strict_sections : WrittenSectionsAreStrict
strict_sections t fields =
    let d = rule t fields in
    let required = required_insert_count d in
    let maximum = maximum_capacity t.agreed_max t.capacity in
    let law = blocks_require t 0 fields in
    record {
      references = all_below required (references_of (insert_count t) d.lines) (omega (arith, law.0));
      no_count = λ none. subst (λ (m : ℕ). (prefix_for m required (insert_count t)).count ≡ 0) (sym none)
          (no_count required (insert_count t));
      not_below = λ none. subst (λ (r : ℕ). (prefix_for maximum r (insert_count t)).sign ≡ false) (sym none)
          (written_not_below maximum (insert_count t));
    }

-- ---- at capacity 0

abbrev pub AtZero : Draft → Type 0
AtZero d = (d.table.capacity ≡ 0) × (d.instructions ≡ [])

-- no field fits
pub no_room : (t : Table) (f : Field) → t.capacity ≡ 0 → has_room t f ≡ false
unfolding has_room
no_room t f none =
    let above : nat_le (field_size f) t.capacity ≡ false = lt-leb (field_size f) t.capacity (omega (arith, none)) in
    rw above refl

literal_by_entry_at_0 : (base : ℕ) (d : Draft) (f : Field) (o : Option ℕ) → AtZero d
    → AtZero (literal_by_entry base d f o)
unfolding with_reference
literal_by_entry_at_0 base d f (Some a) h =
    cond_both (may_reference d.table a) (with_referencing_line d a (name_reference_line base a f))
    (with_line d (Literal f.name f.value)) AtZero (λ _. h) (λ _. h)
literal_by_entry_at_0 base d f None h = h

literal_at_0 : (base : ℕ) (d : Draft) (f : Field) (o : Option ℕ) → AtZero d → AtZero (literal base d f o)
literal_at_0 base d f (Some i) h = h
literal_at_0 base d f None h =
    literal_by_entry_at_0 base d f (newest_index d.table (has_name f.name)) h

insertion_at_0 : (base : ℕ) (d : Draft) (f : Field) → AtZero d → AtZero (insertion_or_literal base d f)
insertion_at_0 base d f h =
    let none : (below_limit d.table && has_room d.table f) ≡ false =
    ap (λ (b : Bool). below_limit d.table && b) (no_room d.table f h.0) ∙ and-false (below_limit d.table) in
    rw none (literal_at_0 base d f (static_name_index f.name) h)

by_entry_at_0 : (base : ℕ) (d : Draft) (f : Field) (o : Option ℕ) → AtZero d → AtZero (by_entry base d f o)
unfolding with_reference
by_entry_at_0 base d f (Some a) h =
    cond_both (nat_le a base && may_reference d.table a) (with_referencing_line d a (IndexedDynamic (base - a)))
    (insertion_or_literal base d f) AtZero (λ _. h) (λ _. insertion_at_0 base d f h)
by_entry_at_0 base d f None h = insertion_at_0 base d f h

by_static_at_0 : (base : ℕ) (d : Draft) (f : Field) (o : Option ℕ) → AtZero d → AtZero (by_static base d f o)
by_static_at_0 base d f (Some i) h = h
by_static_at_0 base d f None h = by_entry_at_0 base d f (newest_index d.table (is_field f)) h

fields_at_0 : (base : ℕ) (d : Draft) (fs : List Field) → AtZero d → AtZero (rule_fields base d fs)
unfolding rule_field
fields_at_0 base d [] h = h
fields_at_0 base d (f ∷ fs) h =
    fields_at_0 base (rule_field base d f) fs (by_static_at_0 base d f (static_index f) h)

pub nothing_at_0 : NothingIsInsertedAtZero
unfolding rule without_references
nothing_at_0 t fields none = (fields_at_0 (insert_count t) (empty_draft t) fields (none, refl)).1
