-- Asking an encoder's handle field by field is the rule.
use Rattle.std.proofs.Common.{ℕ, ◌+◌, ◌-◌, ◌<◌, ◌≤◌, ◌≡◌, Bool, true, false, cond, List, [], ◌∷◌, ◌++◌, length, Option}
use Rattle.std.proofs.Common.{None, Some, refl, ap, ◌∙◌, subst, arith, inl, inr, ◌⊎◌}
use Rattle.std.specs.Prelude.{nat_le, nat_eq, ◌&&◌}
use Rattle.std.proofs.lemmas.Bool.{cond_both, and_parts, leb-false, cases_lt, or_left, or_right, eq-eqb}
use Rattle.std.proofs.lemmas.List.{append-nil}
use Rattle.std.proofs.lemmas.List.Folds.{list_any-append}
use Rattle.qpack_spec.specs.Field.{Field, has_name, is_field}
use Rattle.qpack_spec.specs.StaticTable.{static_index, static_name_index}
use Rattle.qpack_spec.specs.Instruction.{EncoderInstruction, InsertStaticName, InsertDynamicName, InsertLiteralName}
use Rattle.qpack_spec.specs.Instruction.{Duplicate}
use Rattle.qpack_spec.specs.Instruction.{SetCapacity}
use Rattle.qpack_spec.specs.Line.{IndexedDynamic, IndexedPostBase, NamedStatic, NamedDynamic, NamedPostBase, Literal}
use Rattle.qpack_spec.specs.Table.{Table, insert_count, has_number, with_number, with_reference, has_room, below_limit}
use Rattle.qpack_spec.specs.Table.{may_reference, sent_entry}
use Rattle.qpack_spec.specs.Table.{with_entry, last_position, newest_index}
use Rattle.qpack_spec.specs.Rule.{Draft, with_line, with_referencing_line, by_name, by_static_name, by_equal}
use Rattle.qpack_spec.specs.Rule.{instruction_for}
use Rattle.qpack_spec.specs.Rule.{entries_left, with_new_entry, name_reference_line, literal_by_entry, literal}
use Rattle.qpack_spec.specs.Rule.{insertion_or_literal}
use Rattle.qpack_spec.specs.Rule.{by_entry, by_static, rule_field, rule_fields, empty_draft, rule}
use Rattle.qpack_spec.specs.Handle.{AtRelative, AtPostBase, NotFound, lookup_of, Found, found_entry, find_field}
use Rattle.qpack_spec.specs.Handle.{found_name, answer_of, found_instead, insert_field, literal_at, line_of}
use Rattle.qpack_spec.specs.Handle.{instructions_of}
use Rattle.qpack_spec.specs.Handle.{with_insertion, with_found, by_handle, handle_field, handle_fields, HandleIsTheRule}
use Rattle.qpack_spec.proofs.Positions.{FoundEntry, newest_found}
use Rattle.qpack_spec.proofs.Drafts.{Room, room}
use Rattle.qpack_spec.proofs.WrittenDrafts.{count_naming, count_entered, count_unnamed}

-- the block in progress names every entry above its base: it inserted them
abbrev pub NamesAbove : ℕ → Table → Type 0
NamesAbove base t = (a : ℕ) → base < a → a ≤ insert_count t → has_number a t.referenced ≡ true

-- ---- numbers that are kept

kept_number : (referenced : List ℕ) (x a : ℕ) → has_number a referenced ≡ true
    → has_number a (with_number referenced x) ≡ true
unfolding with_number
kept_number referenced x a h =
    cond_both (has_number x referenced) referenced (referenced ++ x ∷ []) (λ l. has_number a l ≡ true) (λ _. h)
    (λ _. list_any-append (λ y. nat_eq y a) referenced (x ∷ [])
    ∙ or_left (has_number a referenced) (has_number a (x ∷ [])) h)

new_number : (referenced : List ℕ) (x : ℕ) → has_number x (with_number referenced x) ≡ true
unfolding with_number
new_number referenced x =
    cond_both (has_number x referenced) referenced (referenced ++ x ∷ []) (λ l. has_number x l ≡ true) (λ t. t)
    (λ _. list_any-append (λ y. nat_eq y x) referenced (x ∷ [])
    ∙ or_right (has_number x referenced) (has_number x (x ∷ [])) (or_left (nat_eq x x) false (eq-eqb x x refl)))

-- naming what is named already changes nothing
naming_again : (t : Table) (a : ℕ) → has_number a t.referenced ≡ true → with_reference t a ≡ t
unfolding with_reference with_number
naming_again t a h = rw h refl

named_now : (t : Table) (a : ℕ) → (with_reference t a).referenced ≡ with_number t.referenced a
unfolding with_reference
named_now t a = refl

above_naming : (base : ℕ) (t : Table) (x : ℕ) → NamesAbove base t → NamesAbove base (with_reference t x)
above_naming base t x k a low high =
    ap (has_number a) (named_now t x) ∙ kept_number t.referenced x a (k a low (omega (arith, high, count_naming t x)))

same_named : (t : Table) (f : Field) → (with_entry t (sent_entry f)).referenced ≡ t.referenced
unfolding with_entry
same_named t f = refl

above_inserted : (base : ℕ) (t : Table) (f : Field) → Room t f → NamesAbove base t
    → NamesAbove base (with_reference (with_entry t (sent_entry f)) (insert_count t + 1))
above_inserted base t f r k a low high =
    let many : insert_count (with_reference (with_entry t (sent_entry f)) (insert_count t + 1)) ≡ insert_count t + 1 =
    count_naming (with_entry t (sent_entry f)) (insert_count t + 1) ∙ count_entered t f r in
    let is : (with_reference (with_entry t (sent_entry f)) (insert_count t + 1)).referenced
    ≡ with_number t.referenced (insert_count t + 1) =
    named_now (with_entry t (sent_entry f)) (insert_count t + 1)
    ∙ ap (λ l. with_number l (insert_count t + 1)) (same_named t f) in
    ap (has_number a) is ∙ pick (cases_lt (insert_count t) a) many
  where
    pick : (insert_count t < a) ⊎ (a ≤ insert_count t)
        → insert_count (with_reference (with_entry t (sent_entry f)) (insert_count t + 1)) ≡ insert_count t + 1
        → has_number a (with_number t.referenced (insert_count t + 1)) ≡ true
    pick (inl lt) many = let same : insert_count t + 1 ≡ a =
        omega (arith, high, many, lt) in subst
        (λ (x : ℕ). has_number x (with_number t.referenced (insert_count t + 1)) ≡ true) same
        (new_number t.referenced (insert_count t + 1))
    pick (inr le) many = kept_number t.referenced (insert_count t + 1) a (k a low le)

-- ---- one field

-- each form of an insertion's instruction is told by its answer
instruction_same : (f : Field) (stay : List Field) (p a : ℕ)
    → instructions_of f (answer_of (instruction_for f stay) p a) ≡ instruction_for f stay ∷ []
unfolding instruction_for
instruction_same f stay p a = equal (last_position (is_field f) stay)
  where
    name : (o : Option ℕ) → instructions_of f (answer_of (by_name f (length stay) o) p a)
        ≡ by_name f (length stay) o ∷ []
    name (Some i) = refl
    name None = refl

    static : (o : Option ℕ) → instructions_of f (answer_of (by_static_name f stay o) p a) ≡ by_static_name f stay o ∷ []
    static (Some i) = refl
    static None = name (last_position (has_name f.name) stay)

    equal : (o : Option ℕ) → instructions_of f (answer_of (by_equal f stay o) p a) ≡ by_equal f stay o ∷ []
    equal (Some i) = refl
    equal None = static (static_name_index f.name)

line_same : (f : Field) (i : EncoderInstruction) (p a : ℕ) → line_of f (answer_of i p a) ≡ IndexedPostBase p
line_same f (InsertStaticName x v) p a = refl
line_same f (InsertDynamicName x v) p a = refl
line_same f (InsertLiteralName n v) p a = refl
line_same f (Duplicate x) p a = refl
line_same f (SetCapacity n) p a = refl

entry_line : (base a : ℕ) (f : Field) → literal_at f (lookup_of base a) ≡ name_reference_line base a f
entry_line base a f = both (nat_le a base)
  where
    both : (b : Bool) → literal_at f (cond b (AtRelative (base - a) a) (AtPostBase (a - base - 1) a))
        ≡ cond b (NamedDynamic (base - a) f.value) (NamedPostBase (a - base - 1) f.value)
    both true = refl
    both false = refl

-- a literal, by what was found of its name
found_literal : (base : ℕ) (d : Draft) (f : Field) (o : Option ℕ)
    → with_insertion d f (found_instead (found_entry d.table base o)) ≡ literal_by_entry base d f o
found_literal base d f None =
    ap (λ is. (let x : Draft = record {
      table = d.table;
      lines = d.lines ++ Literal f.name f.value ∷ [];
      instructions = is;
    } in x)) (append-nil d.instructions)
found_literal base d f (Some a) = both (may_reference d.table a)
  where
    both : (b : Bool) → with_insertion d f (found_instead
        (cond b (record { lookup = lookup_of base a; table = with_reference d.table a })
        (record { lookup = NotFound; table = d.table })))
        ≡ cond b (with_referencing_line d a (name_reference_line base a f)) (with_line d (Literal f.name f.value))
    both true =
        ap (λ is. (let x : Draft = record {
          table = with_reference d.table a;
          lines = d.lines ++ literal_at f (lookup_of base a)
              ∷ [];
          instructions = is;
        } in x)) (append-nil d.instructions)
        ∙ ap (λ l. (let x : Draft = record {
          table = with_reference d.table a;
          lines = d.lines ++ l ∷ [];
          instructions = d.instructions;
        } in x)) (entry_line base a f)
    both false =
        ap (λ is. (let x : Draft = record {
          table = d.table;
          lines = d.lines ++ Literal f.name f.value ∷ [];
          instructions = is;
        } in x)) (append-nil d.instructions)

pub name_literal : (base : ℕ) (d : Draft) (f : Field) (o : Option ℕ)
    → with_insertion d f (found_instead (found_name d.table base f o)) ≡ literal base d f o
name_literal base d f (Some i) =
    ap (λ is. (let x : Draft = record {
      table = d.table;
      lines = d.lines ++ NamedStatic i f.value ∷ [];
      instructions = is;
    } in x)) (append-nil d.instructions)
name_literal base d f None = found_literal base d f (newest_index d.table (has_name f.name))

insertion_same : (base : ℕ) (d : Draft) (f : Field)
    → with_insertion d f (insert_field d.table base f) ≡ insertion_or_literal base d f
unfolding insert_field
insertion_same base d f = both (below_limit d.table && has_room d.table f)
  where
    done : with_insertion d f (record {
      insertion = answer_of (instruction_for f (entries_left d.table f))
          (insert_count d.table - base) (insert_count d.table + 1);
      table =
          with_reference (with_entry d.table (sent_entry f)) (insert_count d.table + 1);
    }) ≡ with_new_entry base d f
    done =
        let i = instruction_for f (entries_left d.table f) in
        ap (λ l. (let x : Draft = record {
          table = with_reference (with_entry d.table (sent_entry f)) (insert_count d.table + 1);
          lines = d.lines ++ l ∷ [];
          instructions =
              d.instructions ++ instructions_of f
              (answer_of i (insert_count d.table - base) (insert_count d.table + 1));
        } in x))
        (line_same f i (insert_count d.table - base) (insert_count d.table + 1))
        ∙ ap (λ is. (let x : Draft = record {
          table = with_reference (with_entry d.table (sent_entry f)) (insert_count d.table + 1);
          lines = d.lines ++ IndexedPostBase (insert_count d.table - base) ∷ [];
          instructions = d.instructions ++ is;
        } in x))
        (instruction_same f (entries_left d.table f) (insert_count d.table - base) (insert_count d.table + 1))

    both : (b : Bool) → with_insertion d f (cond b
        (record {
          insertion = answer_of (instruction_for f (entries_left d.table f)) (insert_count d.table - base)
              (insert_count d.table + 1);
          table = with_reference (with_entry d.table (sent_entry f)) (insert_count d.table + 1);
        })
        (found_instead (found_name d.table base f (static_name_index f.name))))
        ≡ cond b (with_new_entry base d f) (literal base d f (static_name_index f.name))
    both true = done
    both false = name_literal base d f (static_name_index f.name)

-- what is found of an entry, by whether it may be referenced and whether it is up to the base
abbrev chosen_entry : Bool → Bool → ℕ → ℕ → Table → Found
chosen_entry b c base a t =
    cond b (record {
      lookup = cond c (AtRelative (base - a) a)
          (AtPostBase (a - base - 1) a);
      table = with_reference t a;
    })
    (record { lookup = NotFound; table = t })

entry_same : (base : ℕ) (d : Draft) (f : Field) → NamesAbove base d.table → (o : Option ℕ)
    → newest_index d.table (is_field f) ≡ o
    → with_found base d f (found_entry d.table base o).lookup (found_entry d.table base o).table ≡ by_entry base d f o
entry_same base d f k None e = insertion_same base d f
entry_same base d f k (Some a) e = both (may_reference d.table a) (nat_le a base) refl
  where
    at : FoundEntry d.table (is_field f) a
    at = newest_found d.table (is_field f) a e

    both : (b c : Bool) → nat_le a base ≡ c
        → with_found base d f (chosen_entry b c base a d.table).lookup (chosen_entry b c base a d.table).table
        ≡ cond (c && b) (with_referencing_line d a (IndexedDynamic (base - a))) (insertion_or_literal base d f)
    both true true h = refl
    both true false h =
        let above : base < a = leb-false _ _ h in
        ap (λ t. with_insertion d f (insert_field t base f)) (naming_again d.table a (k a above at.within))
        ∙ insertion_same base d f
    both false true h = insertion_same base d f
    both false false h = insertion_same base d f

pub handle_same : (base : ℕ) (d : Draft) (f : Field) → NamesAbove base d.table
    → handle_field base d f ≡ rule_field base d f
unfolding handle_field rule_field find_field
handle_same base d f k = static (static_index f)
  where
    static : (o : Option ℕ) → by_handle base d f o ≡ by_static base d f o
    static (Some i) = refl
    static None = entry_same base d f k (newest_index d.table (is_field f)) refl

-- ---- and the next one

above_literal : (base : ℕ) (d : Draft) (f : Field) (o : Option ℕ) → NamesAbove base d.table
    → NamesAbove base (literal_by_entry base d f o).table
above_literal base d f None k = k
above_literal base d f (Some a) k =
    cond_both (may_reference d.table a) (with_referencing_line d a (name_reference_line base a f))
    (with_line d (Literal f.name f.value))
    (λ (x : Draft). NamesAbove base x.table) (λ _. above_naming base d.table a k) (λ _. k)

pub above_name : (base : ℕ) (d : Draft) (f : Field) (o : Option ℕ) → NamesAbove base d.table
    → NamesAbove base (literal base d f o).table
above_name base d f (Some i) k = k
above_name base d f None k = above_literal base d f (newest_index d.table (has_name f.name)) k

above_insertion : (base : ℕ) (d : Draft) (f : Field) → NamesAbove base d.table
    → NamesAbove base (insertion_or_literal base d f).table
above_insertion base d f k =
    cond_both (below_limit d.table && has_room d.table f) (with_new_entry base d f)
    (literal base d f (static_name_index f.name)) (λ (x : Draft). NamesAbove base x.table)
    (λ t. above_inserted base d.table f (room d.table f (and_parts (below_limit d.table) (has_room d.table f) t).1) k)
    (λ _. above_name base d f (static_name_index f.name) k)

above_entry : (base : ℕ) (d : Draft) (f : Field) (o : Option ℕ) → NamesAbove base d.table
    → NamesAbove base (by_entry base d f o).table
above_entry base d f None k = above_insertion base d f k
above_entry base d f (Some a) k =
    cond_both (nat_le a base && may_reference d.table a) (with_referencing_line d a (IndexedDynamic (base - a)))
    (insertion_or_literal base d f) (λ (x : Draft). NamesAbove base x.table)
    (λ _. above_naming base d.table a k) (λ _. above_insertion base d f k)

pub above_field : (base : ℕ) (d : Draft) (f : Field) → NamesAbove base d.table
    → NamesAbove base (rule_field base d f).table
unfolding rule_field
above_field base d f k = static (static_index f)
  where
    static : (o : Option ℕ) → NamesAbove base (by_static base d f o).table
    static (Some i) = k
    static None = above_entry base d f (newest_index d.table (is_field f)) k

fields_same : (base : ℕ) (d : Draft) (fs : List Field) → NamesAbove base d.table
    → handle_fields base d fs ≡ rule_fields base d fs
fields_same base d [] k = refl
fields_same base d (f ∷ fs) k =
    ap (λ x. handle_fields base x fs) (handle_same base d f k)
    ∙ fields_same base (rule_field base d f) fs (above_field base d f k)

-- a block that begins has no entry above its base
pub none_above : (t : Table) → NamesAbove (insert_count t) (empty_draft t).table
none_above t a low high = absurd (omega (arith, low, high, count_unnamed t))

pub handle_is_rule : HandleIsTheRule
unfolding rule
handle_is_rule t fs = fields_same (insert_count t) (empty_draft t) fs (none_above t)
