-- A section that is written of some choices is one that a lawful encoder may write, and stays one while its entries are
-- in the table.
use Rattle.std.proofs.Common.{ℕ, zero, suc, ◌+◌, ◌-◌, ◌*◌, ◌%◌, ◌^◌, ◌<◌, ◌≤◌, ◌≡◌, Bool, true, false, List, []}
use Rattle.std.proofs.Common.{◌∷◌, ◌++◌, length, Option, None, Some, Result, Ok, Err, refl, sym, ap, ◌∙◌, subst, arith}
use Rattle.std.proofs.Common.{inl, inr, length-append, lit≤, map}
use Rattle.std.specs.List.{AllByRecursion}
use Rattle.std.specs.Prelude.{nat_eq, nat_lt, nat_le, ◌||◌, ◌&&◌, slice_get}
use Rattle.std.proofs.lemmas.Bool.{cond_both, and_parts, or_left, or_right, eq-eqb, ne_eqb, eqb-true, ltb-true}
use Rattle.std.proofs.lemmas.Bool.{leb-true, leb-false}
use Rattle.qpack_spec.specs.Chosen.{Chosen, chosen_rule}
use Rattle.qpack_spec.specs.Field.{Field, FieldLine, fields_of_lines}
use Rattle.qpack_spec.specs.History.{History, window_of, whole_window, Leads}
use Rattle.qpack_rules.specs.LawfulEncoders.{IsInsertion, MeansLine, MayBeReferenced, SpellsField}
use Rattle.qpack_rules.specs.LawfulEncoders.{TellsPrefix, IsLawfulSection}
use Rattle.qpack_spec.specs.Line.{Line, IndexedStatic, IndexedDynamic, IndexedPostBase, NamedStatic, NamedDynamic}
use Rattle.qpack_spec.specs.Line.{NamedPostBase, Literal, SpellsLine, coded_lines, coded_marked_line}
use Rattle.qpack_spec.specs.Marked.{stateless_block_marked, stateless_line_marked, coded_marked_lines}
use Rattle.qpack_spec.specs.Marked.{coded_marked_block}
use Rattle.qpack_spec.specs.MarkedLaws.{AreLiteralsWhereMarked}
use Rattle.qpack_spec.specs.Prefix.{Prefix, SpellsPrefix, most_entries, prefix_for, written_prefix}
use Rattle.qpack_spec.specs.Reading.{Fault, or_fault, static_field, relative_field, post_base_field, field_with_value}
use Rattle.qpack_spec.specs.Reading.{line_field, fields_of, references_of_line, references_of, greatest_of}
use Rattle.qpack_spec.specs.Rule.{Draft, block_of}
use Rattle.qpack_spec.specs.StaticTable.{static_table}
use Rattle.qpack_spec.specs.Stream.{SpellsAll}
use Rattle.qpack_spec.specs.StrictReading.{is_never_indexed}
use Rattle.qpack_spec.specs.Table.{Table, insert_count, has_number, window}
use Rattle.qpack_spec.specs.Window.{Window, with_value, maximum_capacity}
use Rattle.qpack_spec.specs.WrittenLaws.{IsByteField, IsByteLine, IsWritableLineUnder}
use Rattle.qpack_spec.specs.Text.{WhereShorter}
use Rattle.qpack_rules.proofs.AloneSections.{lines_alone, none_referenced, literals_alone, written_alone}
use Rattle.qpack_spec.proofs.BlockReadings.{prefix_spelled}
use Rattle.qpack_rules.proofs.ChosenDrafts.{chosen_drafts}
use Rattle.qpack_rules.proofs.ChosenLines.{chosen_have_lines}
use Rattle.qpack_rules.proofs.ChosenWritten.{chosen_written}
use Rattle.qpack_spec.proofs.Drafts.{IsLive, KeepsTable, Drafting, count_inserted}
use Rattle.qpack_spec.proofs.Lists.{every_left, every_right, every_weaker, get_append}
use Rattle.qpack_rules.proofs.MarkedForms.{marked_lines_spelled, line_tells}
use Rattle.qpack_spec.proofs.Positions.{every_number}
use Rattle.qpack_spec.proofs.Readings.{followed_ok, nil_parts, fields_plain, greatest_bound, below_greatest}
use Rattle.qpack_spec.proofs.Readings.{greatest_has}
use Rattle.qpack_spec.proofs.Results.{chosen, ok_is}
use Rattle.qpack_rules.proofs.StrictWritten.{lines_length}
use Rattle.qpack_spec.proofs.Windows.{Sound, Agreed, leads_sound, leads_agreed}
use Rattle.qpack_spec.proofs.References.{KeepsReferences}
use Rattle.qpack_spec.proofs.WrittenDrafts.{lines_fit}
use Rattle.qpack_safety.proofs.Shown.{prefix_small}

-- ---- the lines of a section, by the entries that it references

-- the bytes spell a line that means this field, says whether it is marked, and references only these entries
pub record SpellsWithin (inserted : List Field) (entries : List ℕ) (base : ℕ) (encoding : List ℕ) (f : FieldLine) :
    Type 0 where
  pub line : Line
  pub spelled : SpellsLine encoding line
  pub means : MeansLine inserted base line f.field
  pub marked : is_never_indexed spelled.first ≡ f.never_indexed
  pub references : AllByRecursion (λ a. has_number a entries ≡ true) (references_of_line base line)

-- the bytes are a section of these fields that references only these entries
pub record IsWithin (maximum : ℕ) (inserted : List Field) (entries : List ℕ) (fields : List FieldLine)
    (bytes : List ℕ) : Type 0 where
  pub base : ℕ
  pub small : base < 2 ^ 64
  pub prefix : Prefix
  pub head : List ℕ
  pub tail : List ℕ
  pub cut : bytes ≡ head ++ tail
  pub prefix_spelled : SpellsPrefix head prefix
  pub tells : TellsPrefix maximum (greatest_of entries) base prefix
  pub lines_spelled : SpellsAll (SpellsWithin inserted entries base) tail fields

spells_each : {L : Type 0} (S T : List ℕ → L → Type 0) → ((encoding : List ℕ) (l : L) → S encoding l → T encoding l)
    → (bytes : List ℕ) (ls : List L) → SpellsAll S bytes ls → SpellsAll T bytes ls
spells_each S T h bytes [] s = s
spells_each S T h bytes (l ∷ ls) s = (s.0, s.1, s.2, h s.0 l s.3, spells_each S T h s.1 ls s.4)

-- ---- it is lawful while its entries are in the table

-- what holds of all numbers holds of one of them
every_has : (P : ℕ → Type 0) (xs : List ℕ) (a : ℕ) → AllByRecursion P xs → has_number a xs ≡ true → P a
every_has P [] a h e = absurd cc
every_has P (x ∷ xs) a h e = by (nat_eq x a) refl e (every_has P xs a h.1)
  where
    by : (b : Bool) → nat_eq x a ≡ b → (b || has_number a xs) ≡ true → (has_number a xs ≡ true → P a) → P a
    by true q e rest = subst P (eqb-true x a q) h.0
    by false q e rest = rest e

-- an entry is in the table
abbrev pub IsKept : History → ℕ → Type 0
IsKept made a = (made.dropped < a) × (a ≤ length made.inserted)

pub within_lawful : (maximum : ℕ) (made : History) (entries : List ℕ) (fields : List FieldLine) (bytes : List ℕ)
    → AllByRecursion (IsKept made) entries → IsWithin maximum made.inserted entries fields bytes
    → IsLawfulSection maximum made (greatest_of entries) fields bytes
within_lawful maximum made entries fields bytes kept k =
    let required = greatest_of entries in
    let may : (a : ℕ) → has_number a entries ≡ true → MayBeReferenced made required a =
    λ a e. (
      (every_has (IsKept made) entries a kept e).0,
      every_has (λ x. x ≤ required) entries a (below_greatest entries) e,
    ) in
    record {
      base = k.base;
      small = k.small;
      prefix = k.prefix;
      head = k.head;
      tail = k.tail;
      cut = k.cut;
      prefix_spelled = k.prefix_spelled;
      tells = k.tells;
      lines_spelled = spells_each (SpellsWithin made.inserted entries k.base) (SpellsField made required k.base)
          (λ encoding f s. record {
            line = s.line;
            spelled = s.spelled;
            means = s.means;
            marked = s.marked;
            references = every_weaker (λ a. has_number a entries ≡ true) (MayBeReferenced made required) may
                (references_of_line k.base s.line) s.references;
          }) k.tail fields k.lines_spelled;
      inserted = greatest_bound (length made.inserted) entries
          (every_weaker (IsKept made) (λ a. a ≤ length made.inserted) (λ a h. h.1) entries kept);
      held = λ some. (greatest_has (IsKept made) entries some kept).0;
    }

-- ---- it is one where more is inserted

insertion_stays : (xs ys : List Field) (a : ℕ) (f : Field) → IsInsertion xs a f → IsInsertion (xs ++ ys) a f
insertion_stays xs ys a f k = (k.0, get_append xs ys (a - 1) f k.1)

line_stays : (xs ys : List Field) (base : ℕ) (l : Line) (f : Field) → MeansLine xs base l f
    → MeansLine (xs ++ ys) base l f
line_stays xs ys base (IndexedStatic i) f k = k
line_stays xs ys base (IndexedDynamic i) f k = insertion_stays xs ys (base - i) f k
line_stays xs ys base (IndexedPostBase i) f k = insertion_stays xs ys (base + i + 1) f k
line_stays xs ys base (NamedStatic i v) f k = k
line_stays xs ys base (NamedDynamic i v) f k = (k.0, insertion_stays xs ys (base - i) k.0 k.1, k.2)
line_stays xs ys base (NamedPostBase i v) f k = (k.0, insertion_stays xs ys (base + i + 1) k.0 k.1, k.2)
line_stays xs ys base (Literal n v) f k = k

pub within_stays : (maximum : ℕ) (xs ys : List Field) (entries : List ℕ) (fields : List FieldLine) (bytes : List ℕ)
    → IsWithin maximum xs entries fields bytes → IsWithin maximum (xs ++ ys) entries fields bytes
within_stays maximum xs ys entries fields bytes k =
    record {
      base = k.base;
      small = k.small;
      prefix = k.prefix;
      head = k.head;
      tail = k.tail;
      cut = k.cut;
      prefix_spelled = k.prefix_spelled;
      tells = k.tells;
      lines_spelled = spells_each (SpellsWithin xs entries k.base) (SpellsWithin (xs ++ ys) entries k.base)
          (λ encoding f s. record {
            line = s.line;
            spelled = s.spelled;
            means = line_stays xs ys k.base s.line f.field s.means;
            marked = s.marked;
            references = s.references;
          }) k.tail fields k.lines_spelled;
    }

-- ---- what a line means

found_is : (o : Option Field) (e : Fault) (f : Field) → or_fault o e ≡ Ok f → o ≡ Some f
found_is (Some g) e f h = ap (λ (x : Field). Some x) (ok_is g f h)
found_is None e f h = absurd cc

static_is : (i : ℕ) (f : Field) → static_field i ≡ Ok f → slice_get static_table i ≡ Some f
unfolding static_field
static_is i f h = found_is (slice_get static_table i) _ f h

relative_is : (made : History) (base i : ℕ) (f : Field) → relative_field (whole_window made) base i ≡ Ok f
    → IsInsertion made.inserted (base - i) f
unfolding relative_field whole_window
relative_is made base i f h =
    elim (chosen (nat_lt 0 (base - i) && nat_lt 0 (length made.inserted)) _ _ (Ok f) h) [
      | inl found ↦
          let p = and_parts (nat_lt 0 (base - i)) (nat_lt 0 (length made.inserted)) found.0 in
          let n : base - i - 0 - 1 ≡ base - i - 1 = omega arith in
          (ltb-true 0 (base - i) p.0, subst (λ (m : ℕ). slice_get made.inserted m ≡ Some f) n (found_is _ _ f found.1))
      | inr none ↦ absurd (let e = none.1 in cc)
    ]

post_base_is : (made : History) (base i : ℕ) (f : Field) → post_base_field (whole_window made) base i ≡ Ok f
    → IsInsertion made.inserted (base + i + 1) f
unfolding post_base_field whole_window
post_base_is made base i f h =
    elim (chosen (nat_lt 0 (base + i + 1)) _ _ (Ok f) h) [
      | inl found ↦
          let n : base + i - 0 ≡ base + i + 1 - 1 = omega arith in
          (omega arith, subst (λ (m : ℕ). slice_get made.inserted m ≡ Some f) n (found_is _ _ f found.1))
      | inr none ↦ absurd (let e = none.1 in cc)
    ]

valued_is : (v : List ℕ) (r : Result Field Fault) (f : Field) → field_with_value v r ≡ Ok f
    → (g : Field) × (r ≡ Ok g) × (f ≡ with_value v g)
valued_is v (Ok g) f h = (g, refl, sym (ok_is (with_value v g) f h))
valued_is v (Err e) f h = absurd cc

line_is : (made : History) (base : ℕ) (l : Line) (f : Field) → line_field (whole_window made) base l ≡ Ok f
    → MeansLine made.inserted base l f
unfolding line_field
line_is made base (IndexedStatic i) f h = static_is i f h
line_is made base (IndexedDynamic i) f h = relative_is made base i f h
line_is made base (IndexedPostBase i) f h = post_base_is made base i f h
line_is made base (NamedStatic i v) f h =
    let r = valued_is v (static_field i) f h in (r.0, static_is i r.0 r.1, r.2)
line_is made base (NamedDynamic i v) f h =
    let r = valued_is v (relative_field (whole_window made) base i) f h in (r.0, relative_is made base i r.0 r.1, r.2)
line_is made base (NamedPostBase i v) f h =
    let r = valued_is v (post_base_field (whole_window made) base i) f h in
    (r.0, post_base_is made base i r.0 r.1, r.2)
line_is made base (Literal n v) f h = sym (ok_is (record { name = n; value = v }) f h)

-- ---- what is written of lines

lines_within : (made : History) (entries : List ℕ) (base : ℕ) (ls : List Line) (fs : List FieldLine)
    → AllByRecursion (IsWritableLineUnder WhereShorter) ls → AreLiteralsWhereMarked fs ls
    → AllByRecursion (λ a. has_number a entries ≡ true) (references_of base ls)
    → fields_of (whole_window made) base ls ≡ Ok (fields_of_lines fs)
    → SpellsAll (SpellsWithin made.inserted entries base) (coded_marked_lines WhereShorter fs ls) fs
unfolding coded_marked_lines coded_lines references_of fields_of
lines_within made entries base [] [] w literal within means = refl
lines_within made entries base [] (f ∷ fs) w literal within means = absurd cc
lines_within made entries base (l ∷ ls) [] w literal within means =
    let p = followed_ok (line_field (whole_window made) base l) (fields_of (whole_window made) base ls) [] means in
    absurd (let e = p.4 in cc)
lines_within made entries base (l ∷ ls) (f ∷ fs) w literal within means =
    let p = followed_ok (line_field (whole_window made) base l) (fields_of (whole_window made) base ls)
    (f.field ∷ fields_of_lines fs) means in
    let one : p.0 ≡ f.field = let e = p.4 in cc in
    let others : p.1 ≡ fields_of_lines fs = let e = p.4 in cc in
    let s = marked_lines_spelled WhereShorter f.never_indexed l w.0 literal.0 in (
      coded_marked_line WhereShorter f.never_indexed l,
      coded_marked_lines WhereShorter fs ls,
      refl,
      record {
        line = l;
        spelled = s;
        means = line_is made base l f.field (p.2 ∙ ap (λ (x : Field). Ok x) one);
        marked = line_tells WhereShorter f.never_indexed l w.0 literal.0 s.first s.more s.begins;
        references = every_left (λ a. has_number a entries ≡ true) (references_of_line base l) (references_of base ls)
            within;
      },
      lines_within made entries base ls fs w.1 literal.1
          (every_right (λ a. has_number a entries ≡ true) (references_of_line base l) (references_of base ls) within)
          (p.3 ∙ ap (λ (x : List Field). Ok x) others),
    )

-- ---- the prefix

-- the base of a section: 0 where nothing is required
abbrev base_of : ℕ → ℕ → ℕ
base_of zero base = 0
base_of (suc n) base = base

tells_written : (maximum required base : ℕ) → (0 < required → 0 < maximum)
    → TellsPrefix maximum required (base_of required base) (prefix_for maximum required base)
unfolding prefix_for
tells_written maximum zero base some =
    record {
      none = λ _. refl;
      some = λ e. absurd (omega (arith, e));
      above = λ _. refl;
      below = λ e. absurd (let x = e in cc);
    }
tells_written maximum (suc n) base some =
    let p : (nat_eq (suc n) 0 || nat_eq maximum 0) ≡ false =
    rw (
      ne_eqb (suc n) 0 (λ e. absurd (omega (arith, e))),
      ne_eqb maximum 0 (λ e. absurd (let m = some (omega arith) in omega (arith, m, e))),
    ) refl in
    rw p (cond_both (nat_le (suc n) base)
    (record { count = suc n % (2 * most_entries maximum) + 1; sign = false; delta = base - suc n })
    (record { count = suc n % (2 * most_entries maximum) + 1; sign = true; delta = suc n - base - 1 })
    (TellsPrefix maximum (suc n) base)
    (λ within. record {
      none = λ e. absurd (omega (arith, e));
      some = λ _. refl;
      above = λ _. (let le = leb-true (suc n) base within in omega (arith, le));
      below = λ e. absurd (let x = e in cc);
    })
    (λ above. record {
      none = λ e. absurd (omega (arith, e));
      some = λ _. refl;
      above = λ e. absurd (let x = e in cc);
      below = λ _. (let lt = leb-false (suc n) base above in omega (arith, lt));
    }))

-- ---- a section

-- lines that reference nothing from one base do so from every base
line_free : (base at : ℕ) (l : Line) → references_of_line base l ≡ [] → references_of_line at l ≡ []
unfolding references_of_line
line_free base at (IndexedStatic i) e = refl
line_free base at (IndexedDynamic i) e = absurd cc
line_free base at (IndexedPostBase i) e = absurd cc
line_free base at (NamedStatic i v) e = refl
line_free base at (NamedDynamic i v) e = absurd cc
line_free base at (NamedPostBase i v) e = absurd cc
line_free base at (Literal n v) e = refl

lines_free : (base at : ℕ) (ls : List Line) → references_of base ls ≡ [] → references_of at ls ≡ []
unfolding references_of
lines_free base at [] e = refl
lines_free base at (l ∷ ls) e =
    let p = nil_parts (references_of_line base l) (references_of base ls) e in
    rw (line_free base at l p.0, lines_free base at ls p.1) refl

none_among : (xs : List ℕ) → AllByRecursion (λ a. has_number a [] ≡ true) xs → xs ≡ []
none_among [] h = refl
none_among (x ∷ xs) h = absurd (let e = h.0 in cc)

-- a section of lines that mean its fields, and reference these entries, from the base on
lines_section : (maximum : ℕ) (made : History) (entries : List ℕ) (base : ℕ) (ls : List Line) (fs : List FieldLine)
    → AllByRecursion IsByteLine ls → AreLiteralsWhereMarked fs ls
    → AllByRecursion (λ a. has_number a entries ≡ true) (references_of base ls)
    → fields_of (whole_window made) base ls ≡ Ok (fields_of_lines fs)
    → (0 < greatest_of entries → 0 < maximum) → greatest_of entries ≤ 2 ^ 62 → base ≤ 2 ^ 62
    → (greatest_of entries ≡ 0 → entries ≡ [])
    → length (written_prefix (prefix_for maximum (greatest_of entries) base) ++ coded_marked_lines WhereShorter fs ls) < 2 ^ 63
    → IsWithin maximum made.inserted entries fs
    (written_prefix (prefix_for maximum (greatest_of entries) base) ++ coded_marked_lines WhereShorter fs ls)
lines_section maximum made entries base ls fs bytes literal within means some few low nothing short =
    by (greatest_of entries) refl
  where
    p : Prefix
    p = prefix_for maximum (greatest_of entries) base

    tells : TellsPrefix maximum (greatest_of entries) (base_of (greatest_of entries) base) p
    tells = tells_written maximum (greatest_of entries) base some

    writable : AllByRecursion (IsWritableLineUnder WhereShorter) ls
    writable =
        lines_fit WhereShorter ls bytes
        (omega (arith, short, length-append (written_prefix p) (coded_marked_lines WhereShorter fs ls), lines_length WhereShorter fs ls))

    from : (at : ℕ) → at ≤ 2 ^ 62 → TellsPrefix maximum (greatest_of entries) at p
        → AllByRecursion (λ a. has_number a entries ≡ true) (references_of at ls)
        → fields_of (whole_window made) at ls ≡ Ok (fields_of_lines fs)
        → IsWithin maximum made.inserted entries fs (written_prefix p ++ coded_marked_lines WhereShorter fs ls)
    from at small told among all =
        record {
          base = at;
          small = omega (arith, small);
          prefix = p;
          head = written_prefix p;
          tail = coded_marked_lines WhereShorter fs ls;
          cut = refl;
          prefix_spelled = prefix_spelled p (prefix_small maximum (greatest_of entries) base few low);
          tells = told;
          lines_spelled = lines_within made entries at ls fs writable literal among all;
        }

    by : (required : ℕ) → greatest_of entries ≡ required
        → IsWithin maximum made.inserted entries fs (written_prefix p ++ coded_marked_lines WhereShorter fs ls)
    by zero e =
        let none : references_of base ls ≡ [] =
        none_among (references_of base ls)
        (subst (λ (xs : List ℕ). AllByRecursion (λ a. has_number a xs ≡ true) (references_of base ls)) (nothing e)
        within) in
        from 0 (omega arith)
        (subst (λ (n : ℕ). TellsPrefix maximum (greatest_of entries) n p) (ap (λ (n : ℕ). base_of n base) e) tells)
        (subst (λ (xs : List ℕ). AllByRecursion (λ a. has_number a entries ≡ true) xs) (sym (lines_free base 0 ls none))
        tt)
        (sym (fields_plain (whole_window made) (whole_window made) base 0 ls none) ∙ means)
    by (suc n) e =
        from base low
        (subst (λ (m : ℕ). TellsPrefix maximum (greatest_of entries) m p) (ap (λ (m : ℕ). base_of m base) e) tells)
        within means

-- ---- under some choices

-- the maximum of a table is the agreed one
agreed_is : (maximum : ℕ) (made : History) (t : Table) → Agreed maximum made → KeepsTable made t
    → maximum_capacity t.agreed_max t.capacity ≡ maximum
unfolding window window_of
agreed_is maximum made t agreed kept =
    let same : t.agreed_max ≡ Some maximum = ap (λ (w : Window). w.agreed_max) kept.shares ∙ agreed.is_agreed in
    ap (λ (o : Option ℕ). maximum_capacity o t.capacity) same

has_each : (xs : List ℕ) → AllByRecursion (λ x. has_number x xs ≡ true) xs
has_each [] = tt
has_each (a ∷ xs) = (
  or_left (nat_eq a a) (has_number a xs) (eq-eqb a a refl),
  every_weaker (λ x. has_number x xs ≡ true) (λ x. has_number x (a ∷ xs) ≡ true)
      (λ x h. or_right (nat_eq a x) (has_number x xs) h) xs (has_each xs),
)

none_live : (t : Table) (xs : List ℕ) → AllByRecursion (IsLive t) xs → greatest_of xs ≡ 0 → xs ≡ []
none_live t [] h e = refl
none_live t (x ∷ xs) h e = absurd (let b = (below_greatest (x ∷ xs)).0 in omega (arith, h.0.0, b, e))

-- the history after the lines of a section, and what holds of it
pub record Drafted (maximum : ℕ) (made : History) (t : Table) (fields : List FieldLine) (cs : List Chosen) :
    Type 0 where
  pub history : History
  pub sound : Sound history
  pub leads : Leads made (chosen_rule t fields cs).instructions history
  pub kept : KeepsTable history (chosen_rule t fields cs).table
  pub references : KeepsReferences t (chosen_rule t fields cs)
  pub referenced : AllByRecursion (IsLive (chosen_rule t fields cs).table) (chosen_rule t fields cs).table.referenced
  pub section : AllByRecursion IsByteField (fields_of_lines fields)
      → length (coded_marked_block WhereShorter fields (block_of t (chosen_rule t fields cs))) < 2 ^ 63
      → IsWithin maximum history.inserted (chosen_rule t fields cs).table.referenced fields
      (coded_marked_block WhereShorter fields (block_of t (chosen_rule t fields cs)))

pub drafted : (maximum : ℕ) (made : History) (t : Table) (fields : List FieldLine) (cs : List Chosen) → Sound made
    → Agreed maximum made → KeepsTable made t → Drafted maximum made t fields cs
unfolding coded_marked_block
drafted maximum made t fields cs sound agreed kept =
    record {
      history = p.history;
      sound = later;
      leads = p.leads;
      kept = p.table;
      references = p.references;
      referenced = p.referenced;
      section = λ are short.
          let w = chosen_written t fields cs few are in
          subst (λ (n : ℕ). IsWithin maximum p.history.inserted entries fields
          (written_prefix (prefix_for n (greatest_of entries) (insert_count t)) ++ coded_marked_lines WhereShorter fields d.lines))
          (sym most)
          (lines_section maximum p.history entries (insert_count t) d.lines fields w.lines
          (chosen_have_lines t fields cs).0
          (every_number (λ a. has_number a entries ≡ true) (references_of (insert_count t) d.lines) []
          (subst (AllByRecursion (λ a. has_number a entries ≡ true)) (sym p.references.refs) (has_each entries))).1
          p.means some (omega (arith, w.few, bound)) few (none_live d.table entries p.referenced)
          (subst (λ (n : ℕ). length (written_prefix (prefix_for n (greatest_of entries) (insert_count t))
          ++ coded_marked_lines WhereShorter fields d.lines) < 2 ^ 63) most short));
    }
  where
    d : Draft
    d = chosen_rule t fields cs

    entries : List ℕ
    entries = d.table.referenced

    p : Drafting t made (fields_of_lines fields) d
    p = chosen_drafts t made fields cs sound kept

    later : Sound p.history
    later = leads_sound made d.instructions p.history p.leads sound

    few : insert_count t ≤ 2 ^ 62
    few = omega (arith, count_inserted t made kept.shares sound, sound.few)

    most : maximum_capacity t.agreed_max t.capacity ≡ maximum
    most = agreed_is maximum made t agreed kept

    bound : greatest_of entries ≤ insert_count d.table
    bound =
        greatest_bound (insert_count d.table) entries
        (every_weaker (IsLive d.table) (λ a. a ≤ insert_count d.table) (λ a h. h.1) entries p.referenced)

    some : 0 < greatest_of entries → 0 < maximum
    some any =
        let a = leads_agreed maximum made d.instructions p.history p.leads agreed in
        let room = a.roomy (omega (arith, any, bound, count_inserted d.table p.history p.table.shares later)) in
        omega (arith, room)

-- ---- without references

pub alone_within : (maximum : ℕ) (made : History) (fields : List FieldLine)
    → AllByRecursion IsByteField (fields_of_lines fields)
    → length (coded_marked_block WhereShorter fields (stateless_block_marked fields)) < 2 ^ 63
    → IsWithin maximum made.inserted [] fields (coded_marked_block WhereShorter fields (stateless_block_marked fields))
unfolding coded_marked_block greatest_of prefix_for
alone_within maximum made fields are short =
    lines_section maximum made [] 0 (map (λ l. stateless_line_marked l) fields) fields
    (written_alone (whole_window made) fields are) (literals_alone (whole_window made) fields)
    (subst (AllByRecursion (λ a. has_number a [] ≡ true)) (sym (none_referenced 0 (whole_window made) fields)) tt)
    (lines_alone (whole_window made) 0 fields) (λ e. absurd (omega (arith, e))) (lit≤ tt) (lit≤ tt) (λ _. refl) short
