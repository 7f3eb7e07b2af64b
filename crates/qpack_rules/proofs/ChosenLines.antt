-- Whatever is chosen, each field has a line, a marked one a literal.
use Rattle.std.proofs.Common.{ℕ, ◌≡◌, Bool, true, false, cond, List, [], ◌∷◌, ◌++◌, length, Option, None}
use Rattle.std.proofs.Common.{Some, refl, sym, ap, ◌∙◌, subst, arith}
use Rattle.std.specs.Prelude.{nat_le, ◌&&◌}
use Rattle.std.proofs.lemmas.Bool.{cond_both}
use Rattle.std.proofs.lemmas.List.{append-nil, append_assoc}
use Rattle.qpack_spec.specs.Chosen.{Choice, Alone, References, Names, Inserts, Naming, Chosen, passes_at}
use Rattle.qpack_spec.specs.Chosen.{literal_alone, instruction_naming}
use Rattle.qpack_spec.specs.Chosen.{line_alone, entry_reference_line, named_or, literal_chosen, line_chosen}
use Rattle.qpack_spec.specs.Chosen.{with_unreferenced_entry, unreferenced_chosen, chosen_field, chosen_fields}
use Rattle.qpack_spec.specs.Chosen.{chosen_rule, alone_chosen, ChosenFieldsHaveLines}
use Rattle.qpack_spec.specs.Field.{Field, FieldLine, has_name, is_field}
use Rattle.qpack_spec.specs.Line.{Line, IndexedStatic, NamedStatic, Literal}
use Rattle.qpack_spec.specs.MarkedLaws.{is_literal, AreLiteralsWhereMarked}
use Rattle.qpack_spec.specs.Rule.{Draft, with_referencing_line, with_inserted, name_reference_line, empty_draft}
use Rattle.qpack_spec.specs.StaticTable.{static_index, static_name_index}
use Rattle.qpack_spec.specs.Table.{insert_count, has_room, below_limit, may_reference}

-- one line more, of which this holds
Adds : (Line → Type 0) → Draft → Draft → Type 0
Adds P d new = (l : Line) × (new.lines ≡ d.lines ++ l ∷ []) × P l

IsLiteral : Line → Type 0
IsLiteral l = is_literal l ≡ true

Any : Line → Type 0
Any l = Unit {0}

literal_alone_adds : (d : Draft) (f : Field) (o : Option ℕ) → Adds IsLiteral d (literal_alone d f o)
unfolding Adds IsLiteral
literal_alone_adds d f (Some i) = (NamedStatic i f.value, refl, refl)
literal_alone_adds d f None = (Literal f.name f.value, refl, refl)

name_is_literal : (base a : ℕ) (f : Field) → is_literal (name_reference_line base a f) ≡ true
name_is_literal base a f =
    cond_both (nat_le a base) _ _ (λ l. is_literal l ≡ true) (λ _. refl) (λ _. refl)

named_or_adds : (P : Line → Type 0) (base : ℕ) (d other : Draft) (f : Field) (a : ℕ)
    → P (name_reference_line base a f) → Adds P d other → Adds P d (named_or base d f a other)
unfolding Adds
named_or_adds P base d other f a p o =
    cond_both (passes_at d.table (has_name f.name) a && may_reference d.table a)
    (with_referencing_line d a (name_reference_line base a f)) other (Adds P d)
    (λ _. (name_reference_line base a f, refl, p)) (λ _. o)

literal_adds : (base : ℕ) (d : Draft) (f : Field) (c : Choice) → Adds IsLiteral d (literal_chosen base d f c)
unfolding IsLiteral
literal_adds base d f Alone = literal_alone_adds d f (static_name_index f.name)
literal_adds base d f (References a) = literal_alone_adds d f (static_name_index f.name)
literal_adds base d f (Names a) =
    named_or_adds IsLiteral base d (literal_alone d f (static_name_index f.name)) f a (name_is_literal base a f)
    (literal_alone_adds d f (static_name_index f.name))
literal_adds base d f Inserts = literal_alone_adds d f (static_name_index f.name)

any_adds : (P : Line → Type 0) (d new : Draft) → Adds P d new → Adds Any d new
unfolding Adds Any
any_adds P d new a = (a.0, a.1, tt)

line_alone_adds : (d : Draft) (f : Field) (o : Option ℕ) → Adds Any d (line_alone d f o)
unfolding Adds Any
line_alone_adds d f (Some i) = (IndexedStatic i, refl, tt)
line_alone_adds d f None = any_adds IsLiteral d (literal_alone d f (static_name_index f.name))
    (literal_alone_adds d f (static_name_index f.name))

line_adds : (names : Naming) (base : ℕ) (d : Draft) (f : Field) (c : Choice)
    → Adds Any d (line_chosen names base d f c)
unfolding Adds Any
line_adds names base d f Alone = line_alone_adds d f (static_index f)
line_adds names base d f (References a) =
    cond_both (passes_at d.table (is_field f) a && may_reference d.table a)
    (with_referencing_line d a (entry_reference_line base a)) (line_alone d f (static_index f)) (Adds Any d)
    (λ _. (_, refl, tt)) (λ _. line_alone_adds d f (static_index f))
line_adds names base d f (Names a) =
    named_or_adds Any base d (line_alone d f (static_index f)) f a tt (line_alone_adds d f (static_index f))
line_adds names base d f Inserts =
    cond_both (below_limit d.table && has_room d.table f) (with_inserted base d f (instruction_naming names d.table f))
    (line_alone d f (static_index f)) (Adds Any d) (λ _. (_, refl, tt)) (λ _. line_alone_adds d f (static_index f))

unreferenced_lines : (names : Naming) (unreferenced : Bool) (d : Draft) (f : Field)
    → (unreferenced_chosen names unreferenced d f).lines ≡ d.lines
unreferenced_lines names unreferenced d f =
    cond_both (unreferenced && has_room d.table f) (with_unreferenced_entry names d f) d
    (λ (x : Draft). x.lines ≡ d.lines) (λ _. refl)
    (λ _. refl)

-- a line of a field with this mark
Suits : Bool → Line → Type 0
Suits never l = never ≡ true → is_literal l ≡ true

field_adds : (base : ℕ) (d : Draft) (l : FieldLine) (c : Chosen)
    → Adds (Suits l.never_indexed) d (chosen_field base d l c)
unfolding Adds Suits IsLiteral Any
field_adds base d l c = both l.never_indexed
  where
    both : (never : Bool)
        → Adds (Suits never) d
        (cond never (literal_chosen base d l.field c.line)
        (unreferenced_chosen c.names c.unreferenced (line_chosen c.names base d l.field c.line) l.field))
    both true = let a = literal_adds base d l.field c.line in (a.0, a.1, λ _. a.2)
    both false = let a = line_adds c.names base d l.field c.line in
        (a.0, unreferenced_lines c.names c.unreferenced (line_chosen c.names base d l.field c.line) l.field ∙ a.1, λ e. absurd cc)

-- all lines that are added
AllAdd : Draft → Draft → List FieldLine → Type 0
AllAdd d new fs =
    (ls : List Line) × (new.lines ≡ d.lines ++ ls) × AreLiteralsWhereMarked fs ls × (length ls ≡ length fs)

lines_next : (d mid new : Draft) (f : FieldLine) (fs : List FieldLine) → Adds (Suits f.never_indexed) d mid
    → AllAdd mid new fs → AllAdd d new (f ∷ fs)
unfolding Adds Suits AllAdd
lines_next d mid new f fs one more = (
  one.0 ∷ more.0,
  more.1 ∙ ap (λ (ls : List Line). ls ++ more.0) one.1 ∙ append_assoc d.lines (one.0 ∷ []) more.0,
  (one.2, more.2),
  omega (arith, more.3),
)

lines_add : (base : ℕ) (d : Draft) (fs : List FieldLine) (cs : List Chosen) → AllAdd d (chosen_fields base d fs cs) fs
unfolding AllAdd
lines_add base d [] cs = ([], sym (append-nil d.lines), tt, refl)
lines_add base d (f ∷ fs) [] =
    let mid = chosen_field base d f alone_chosen in
    lines_next d mid (chosen_fields base mid fs []) f fs (field_adds base d f alone_chosen) (lines_add base mid fs [])
lines_add base d (f ∷ fs) (c ∷ cs) =
    let mid = chosen_field base d f c in
    lines_next d mid (chosen_fields base mid fs cs) f fs (field_adds base d f c) (lines_add base mid fs cs)

pub chosen_have_lines : ChosenFieldsHaveLines
unfolding chosen_rule AllAdd
chosen_have_lines t fs cs =
    let all = lines_add (insert_count t) (empty_draft t) fs cs in (
      subst (λ (ls : List Line). AreLiteralsWhereMarked fs ls) (sym all.1) all.2,
      ap (λ (ls : List Line). length ls) all.1 ∙ all.3,
    )
