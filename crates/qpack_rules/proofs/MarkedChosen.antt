-- The rule for marked fields is one list of choices.
use Rattle.std.proofs.Common.{ℕ, ◌-◌, ◌≡◌, Bool, true, false, cond, List, [], ◌∷◌, Option, None, Some, refl, ap, ◌∙◌}
use Rattle.std.proofs.Common.{arith, sym, subst}
use Rattle.std.specs.Prelude.{nat_le, ◌&&◌}
use Rattle.std.proofs.lemmas.Bool.{cond_both, and_parts, lt-ltb}
use Rattle.qpack_spec.specs.Chosen.{Choice, Alone, References, Names, Inserts, Staying, Chosen, passes_at, literal_chosen}
use Rattle.qpack_spec.specs.Chosen.{line_chosen, unreferenced_chosen, chosen_field, chosen_fields, chosen_rule}
use Rattle.qpack_spec.specs.Chosen.{MarkedRuleIsChosen}
use Rattle.qpack_spec.specs.Field.{Field, FieldLine, has_name, is_field}
use Rattle.qpack_spec.specs.Line.{IndexedDynamic, Literal}
use Rattle.qpack_spec.specs.Marked.{marked_field, marked_fields, marked_rule}
use Rattle.qpack_spec.specs.MarkedLaws.{AreLiteralsWhereMarked, MarkedFieldsAreLiterals}
use Rattle.qpack_spec.specs.Rule.{Draft, with_line, with_referencing_line, with_new_entry, name_reference_line}
use Rattle.qpack_spec.specs.Rule.{literal_by_entry, literal, insertion_or_literal, by_entry, by_static, rule_field}
use Rattle.qpack_spec.specs.Rule.{empty_draft}
use Rattle.qpack_spec.specs.StaticTable.{static_index, static_name_index}
use Rattle.qpack_spec.specs.Table.{Table, insert_count, newest_index, has_room, below_limit, may_reference}
use Rattle.qpack_rules.proofs.ChosenLines.{chosen_have_lines}
use Rattle.qpack_spec.proofs.Positions.{FoundEntry, newest_found}

-- a draft that one choice of a literal leads to, and one that a choice of a line leads to
IsLiteralChosen : ℕ → Draft → Field → Draft → Type 0
IsLiteralChosen base d f new = (c : Choice) × (new ≡ literal_chosen base d f c)

IsLineChosen : ℕ → Draft → Field → Draft → Type 0
IsLineChosen base d f new = (c : Choice) × (new ≡ line_chosen Staying base d f c)

found_passes : (t : Table) (p : Field → Bool) (a : ℕ) → FoundEntry t p a → passes_at t p a ≡ true
found_passes t p a at =
    let n : a - t.dropped - 1 ≡ at.position = omega (arith, at.index) in
    rw (lt-ltb t.dropped a at.above, n, at.there) at.passes

-- ---- a literal

literal_by_entry_chosen : (base : ℕ) (d : Draft) (f : Field) (o : Option ℕ)
    → newest_index d.table (has_name f.name) ≡ o → static_name_index f.name ≡ None
    → IsLiteralChosen base d f (literal_by_entry base d f o)
unfolding IsLiteralChosen
literal_by_entry_chosen base d f None e none = (Alone, rw none refl)
literal_by_entry_chosen base d f (Some a) e none =
    cond_both (may_reference d.table a) (with_referencing_line d a (name_reference_line base a f))
    (with_line d (Literal f.name f.value)) (IsLiteralChosen base d f)
    (λ may. let at = found_passes d.table (has_name f.name) a (newest_found d.table (has_name f.name) a e) in
    (Names a, rw (at, may) refl))
    (λ _. (Alone, rw none refl))

literal_is_chosen : (base : ℕ) (d : Draft) (f : Field) (o : Option ℕ) → static_name_index f.name ≡ o
    → IsLiteralChosen base d f (literal base d f o)
unfolding IsLiteralChosen
literal_is_chosen base d f (Some i) e = (Alone, rw e refl)
literal_is_chosen base d f None e = literal_by_entry_chosen base d f (newest_index d.table (has_name f.name)) refl e

-- ---- a line of a field that no static field equals

line_of_literal : (base : ℕ) (d new : Draft) (f : Field) → static_index f ≡ None → IsLiteralChosen base d f new
    → IsLineChosen base d f new
unfolding IsLiteralChosen IsLineChosen
line_of_literal base d new f none k = pick k.0 k.1
  where
    pick : (c : Choice) → new ≡ literal_chosen base d f c → (c : Choice) × (new ≡ line_chosen Staying base d f c)
    pick Alone e = (Alone, rw none e)
    pick (References a) e = (Alone, rw none e)
    pick (Names a) e = (Names a, rw none e)
    pick Inserts e = (Alone, rw none e)

insertion_chosen : (base : ℕ) (d : Draft) (f : Field) → static_index f ≡ None
    → IsLineChosen base d f (insertion_or_literal base d f)
unfolding IsLineChosen
insertion_chosen base d f none =
    cond_both (below_limit d.table && has_room d.table f) (with_new_entry base d f)
    (literal base d f (static_name_index f.name)) (IsLineChosen base d f)
    (λ t. (Inserts, rw t refl))
    (λ _. line_of_literal base d (literal base d f (static_name_index f.name)) f none
    (literal_is_chosen base d f (static_name_index f.name) refl))

entry_chosen : (base : ℕ) (d : Draft) (f : Field) (o : Option ℕ) → newest_index d.table (is_field f) ≡ o
    → static_index f ≡ None → IsLineChosen base d f (by_entry base d f o)
unfolding IsLineChosen
entry_chosen base d f None e none = insertion_chosen base d f none
entry_chosen base d f (Some a) e none =
    cond_both (nat_le a base && may_reference d.table a) (with_referencing_line d a (IndexedDynamic (base - a)))
    (insertion_or_literal base d f) (IsLineChosen base d f)
    (λ t. let p = and_parts (nat_le a base) (may_reference d.table a) t in
    let at = found_passes d.table (is_field f) a (newest_found d.table (is_field f) a e) in
    (References a, rw (at, p.1, p.0) refl))
    (λ _. insertion_chosen base d f none)

-- ---- each field

static_chosen : (base : ℕ) (d : Draft) (f : Field) (o : Option ℕ) → static_index f ≡ o
    → IsLineChosen base d f (by_static base d f o)
unfolding IsLineChosen
static_chosen base d f (Some i) e = (Alone, rw e refl)
static_chosen base d f None e = entry_chosen base d f (newest_index d.table (is_field f)) refl e

field_is_chosen : (base : ℕ) (d : Draft) (l : FieldLine)
    → (c : Chosen) × (marked_field base d l ≡ chosen_field base d l c)
unfolding rule_field IsLiteralChosen IsLineChosen
field_is_chosen base d l = both l.never_indexed
  where
    both : (never : Bool) → (c : Chosen)
        × (cond never (literal base d l.field (static_name_index l.field.name)) (rule_field base d l.field)
        ≡ cond never (literal_chosen base d l.field c.line)
        (unreferenced_chosen c.names c.unreferenced (line_chosen c.names base d l.field c.line) l.field))
    both true = let k = literal_is_chosen base d l.field (static_name_index l.field.name) refl in
        (record { line = k.0; unreferenced = false; names = Staying }, k.1)
    both false = let k = static_chosen base d l.field (static_index l.field) refl in
        (record { line = k.0; unreferenced = false; names = Staying }, k.1)

fields_are_chosen : (base : ℕ) (d : Draft) (ls : List FieldLine)
    → (cs : List Chosen) × (marked_fields base d ls ≡ chosen_fields base d ls cs)
fields_are_chosen base d [] = ([], refl)
fields_are_chosen base d (l ∷ ls) =
    let one = field_is_chosen base d l in
    let more = fields_are_chosen base (marked_field base d l) ls in
    (one.0 ∷ more.0, more.1 ∙ ap (λ (x : Draft). chosen_fields base x ls more.0) one.1)

pub marked_is_chosen : MarkedRuleIsChosen
unfolding marked_rule chosen_rule
marked_is_chosen t ls = fields_are_chosen (insert_count t) (empty_draft t) ls

-- so a marked field has a literal
pub marked_are_literals : MarkedFieldsAreLiterals
marked_are_literals t fs =
    let chosen = marked_is_chosen t fs in
    subst (λ (d : Draft). AreLiteralsWhereMarked fs d.lines) (sym chosen.1) (chosen_have_lines t fs chosen.0).0
