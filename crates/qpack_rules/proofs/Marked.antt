-- A block of fields some of which are marked as never to be indexed.
use Rattle.std.proofs.Common.{ℕ, ◌+◌, ◌-◌, ◌≡◌, Bool, true, false, cond, List, [], ◌∷◌, ◌++◌, length, map, Option}
use Rattle.std.proofs.Common.{None, Some}
use Rattle.std.proofs.Common.{refl, ap, ◌∙◌, arith, length-append}
use Rattle.std.specs.Prelude.{nat_le, ◌&&◌}
use Rattle.std.proofs.lemmas.Bool.{cond_both}
use Rattle.qpack_spec.specs.Field.{Field, FieldLine, has_name, is_field, unmarked}
use Rattle.qpack_spec.specs.Handle.{found_name, found_instead, with_insertion, handle_field}
use Rattle.qpack_spec.specs.Line.{Line, IndexedStatic, IndexedDynamic, IndexedPostBase, NamedStatic, NamedDynamic}
use Rattle.qpack_spec.specs.Line.{NamedPostBase, Literal, coded_line, coded_lines, coded_marked_line}
use Rattle.qpack_spec.specs.Marked.{stateless_line_marked}
use Rattle.qpack_spec.specs.Marked.{marked_field, marked_fields, marked_rule, coded_marked_lines, handle_line}
use Rattle.qpack_spec.specs.Marked.{handle_lines, HandleIsTheMarkedRule, IsTheRuleUnmarked, MarkedLinesAreOfFields}
use Rattle.qpack_spec.specs.Reading.{Block}
use Rattle.qpack_spec.specs.Rule.{Draft, with_line, with_referencing_line, with_new_entry, name_reference_line}
use Rattle.qpack_spec.specs.Rule.{literal_by_entry, literal, insertion_or_literal, by_entry, by_static, rule_field}
use Rattle.qpack_spec.specs.Rule.{rule_fields, empty_draft, rule}
use Rattle.qpack_spec.specs.Stateless.{stateless_line}
use Rattle.qpack_spec.specs.StaticTable.{static_index, static_name_index}
use Rattle.qpack_spec.specs.Table.{Table, insert_count, newest_index, may_reference, below_limit, has_room}
use Rattle.qpack_spec.specs.Text.{Coding}
use Rattle.qpack_rules.proofs.Handles.{NamesAbove, name_literal, handle_same, above_name, above_field, none_above}

-- ---- the handle's steps

line_same : (base : ℕ) (d : Draft) (l : FieldLine) → NamesAbove base d.table
    → handle_line base d l ≡ marked_field base d l
line_same base d l k = both l.never_indexed
  where
    both : (b : Bool)
        → cond b (with_insertion d l.field (found_instead
        (found_name d.table base l.field (static_name_index l.field.name)))) (handle_field base d l.field)
        ≡ cond b (literal base d l.field (static_name_index l.field.name)) (rule_field base d l.field)
    both true = name_literal base d l.field (static_name_index l.field.name)
    both false = handle_same base d l.field k

above_line : (base : ℕ) (d : Draft) (l : FieldLine) → NamesAbove base d.table
    → NamesAbove base (marked_field base d l).table
above_line base d l k =
    cond_both l.never_indexed (literal base d l.field (static_name_index l.field.name)) (rule_field base d l.field)
    (λ (x : Draft). NamesAbove base x.table) (λ _. above_name base d l.field (static_name_index l.field.name) k)
    (λ _. above_field base d l.field k)

lines_same : (base : ℕ) (d : Draft) (ls : List FieldLine) → NamesAbove base d.table
    → handle_lines base d ls ≡ marked_fields base d ls
lines_same base d [] k = refl
lines_same base d (l ∷ ls) k =
    ap (λ x. handle_lines base x ls) (line_same base d l k)
    ∙ lines_same base (marked_field base d l) ls (above_line base d l k)

pub handle_is_marked_rule : HandleIsTheMarkedRule
unfolding marked_rule
handle_is_marked_rule t ls = lines_same (insert_count t) (empty_draft t) ls (none_above t)

-- ---- where no field is marked

unmarked_fields : (base : ℕ) (d : Draft) (fs : List Field)
    → marked_fields base d (map unmarked fs) ≡ rule_fields base d fs
unmarked_fields base d [] = refl
unmarked_fields base d (f ∷ fs) = unmarked_fields base (rule_field base d f) fs

unmarked_line : (coding : Coding) (l : Line) → coded_marked_line coding false l ≡ coded_line coding l
unfolding coded_marked_line
unmarked_line coding (IndexedStatic index) = refl
unmarked_line coding (IndexedDynamic relative) = refl
unmarked_line coding (IndexedPostBase post_base) = refl
unmarked_line coding (NamedStatic index value) = refl
unmarked_line coding (NamedDynamic relative value) = refl
unmarked_line coding (NamedPostBase post_base value) = refl
unmarked_line coding (Literal name value) = refl

pub unmarked_lines : (fs : List Field) (coding : Coding) (ls : List Line)
    → coded_marked_lines coding (map unmarked fs) ls ≡ coded_lines coding ls
unfolding coded_marked_lines coded_lines
unmarked_lines [] coding ls = refl
unmarked_lines (f ∷ fs) coding [] = refl
unmarked_lines (f ∷ fs) coding (l ∷ ls) =
    ap (λ (x : List ℕ). x ++ coded_marked_lines coding (map unmarked fs) ls) (unmarked_line coding l)
    ∙ ap (λ (x : List ℕ). coded_line coding l ++ x) (unmarked_lines fs coding ls)

stateless_unmarked : (fs : List Field)
    → map (λ l. stateless_line_marked l) (map unmarked fs) ≡ map (λ f. stateless_line f) fs
stateless_unmarked [] = refl
stateless_unmarked (f ∷ fs) = ap (λ (ls : List Line). stateless_line f ∷ ls) (stateless_unmarked fs)

pub is_rule_unmarked : (t : Table) (fs : List Field) → IsTheRuleUnmarked t fs
unfolding marked_rule rule
is_rule_unmarked t fs = record {
  draft = unmarked_fields (insert_count t) (empty_draft t) fs;
  lines = unmarked_lines fs;
  stateless = ap (λ (ls : List Line). let b : Block = record {
    prefix = record { count = 0; sign = false; delta = 0 };
    lines = ls;
  } in b) (stateless_unmarked fs);
}

-- ---- a line for each field

-- one line more than before
abbrev OneMore : Draft → Draft → Type 0
OneMore d new = length new.lines ≡ length d.lines + 1

one_by_entry : (base : ℕ) (d : Draft) (f : Field) (o : Option ℕ) → OneMore d (literal_by_entry base d f o)
one_by_entry base d f None = length-append d.lines _
one_by_entry base d f (Some a) =
    cond_both (may_reference d.table a) (with_referencing_line d a (name_reference_line base a f))
    (with_line d (Literal f.name f.value)) (OneMore d) (λ _. length-append d.lines _) (λ _. length-append d.lines _)

one_literal : (base : ℕ) (d : Draft) (f : Field) (o : Option ℕ) → OneMore d (literal base d f o)
one_literal base d f (Some i) = length-append d.lines _
one_literal base d f None = one_by_entry base d f (newest_index d.table (has_name f.name))

one_insertion : (base : ℕ) (d : Draft) (f : Field) → OneMore d (insertion_or_literal base d f)
one_insertion base d f =
    cond_both (below_limit d.table && has_room d.table f) (with_new_entry base d f)
    (literal base d f (static_name_index f.name)) (OneMore d) (λ _. length-append d.lines _)
    (λ _. one_literal base d f (static_name_index f.name))

one_entry : (base : ℕ) (d : Draft) (f : Field) (o : Option ℕ) → OneMore d (by_entry base d f o)
one_entry base d f None = one_insertion base d f
one_entry base d f (Some a) =
    cond_both (nat_le a base && may_reference d.table a) (with_referencing_line d a (IndexedDynamic (base - a)))
    (insertion_or_literal base d f) (OneMore d) (λ _. length-append d.lines _) (λ _. one_insertion base d f)

one_field : (base : ℕ) (d : Draft) (f : Field) → OneMore d (rule_field base d f)
unfolding rule_field
one_field base d f = static (static_index f)
  where
    static : (o : Option ℕ) → OneMore d (by_static base d f o)
    static (Some i) = length-append d.lines _
    static None = one_entry base d f (newest_index d.table (is_field f))

one_line : (base : ℕ) (d : Draft) (l : FieldLine) → OneMore d (marked_field base d l)
one_line base d l =
    cond_both l.never_indexed (literal base d l.field (static_name_index l.field.name)) (rule_field base d l.field)
    (OneMore d) (λ _. one_literal base d l.field (static_name_index l.field.name)) (λ _. one_field base d l.field)

line_each : (base : ℕ) (d : Draft) (ls : List FieldLine)
    → length (marked_fields base d ls).lines ≡ length d.lines + length ls
line_each base d [] = omega arith
line_each base d (l ∷ ls) = omega (arith, line_each base (marked_field base d l) ls, one_line base d l)

pub marked_lines_are_of_fields : MarkedLinesAreOfFields
unfolding marked_rule
marked_lines_are_of_fields t ls = omega (arith, line_each (insert_count t) (empty_draft t) ls)
