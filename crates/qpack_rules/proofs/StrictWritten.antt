-- A strict decoder reads every section that is written so, keeps to its required insert count, and is within its limit.
use Rattle.std.proofs.Common.{ℕ, zero, suc, ◌+◌, ◌≤◌, ◌≡◌, false, List, []}
use Rattle.std.proofs.Common.{◌∷◌, ◌++◌, length, map, Result, Ok, refl, sym, ap, ◌∙◌, subst, arith, length-append}
use Rattle.std.proofs.Common.{true}
use Rattle.std.specs.List.{AllByRecursion}
use Rattle.std.specs.Prelude.{◌&&◌, nat_eq, nat_lt}
use Rattle.std.proofs.lemmas.Bool.{le-ltb, lt-ltb, le-leb, ne_eqb}
use Rattle.qpack_spec.specs.Field.{Field, field_size, total_size, FieldLine, fields_of_lines, unmarked}
use Rattle.qpack_spec.specs.Form.{form_at}
use Rattle.qpack_spec.specs.Line.{Line, line_form, coded_line, coded_lines, coded_marked_line}
use Rattle.qpack_spec.specs.Marked.{coded_marked_lines, coded_marked_block}
use Rattle.qpack_spec.specs.MarkedLaws.{is_literal, AreLiteralsWhereMarked, MarkedSectionsAreRead}
use Rattle.qpack_spec.specs.MarkedLaws.{MarkedSectionsAreBlocked}
use Rattle.qpack_spec.specs.Prefix.{read_prefix, written_prefix}
use Rattle.qpack_spec.specs.Window.{Window, maximum_capacity, window_insert_count}
use Rattle.qpack_spec.specs.Reading.{Fault, Block, Fields, line_field, fields_of, references_of_line}
use Rattle.qpack_spec.specs.Reading.{references_of, greatest_of, reading}
use Rattle.qpack_spec.specs.BlockReading.{coded_block}
use Rattle.qpack_spec.specs.Stateless.{saturated_size}
use Rattle.qpack_spec.specs.LengthLaws.{longest_section}
use Rattle.qpack_spec.specs.StrictReading.{LinesUnder, within_size, strict_field, Read}
use Rattle.qpack_spec.specs.StrictReading.{strict_line_at, strict_lines_at, strict_reading, indexable}
use Rattle.qpack_spec.specs.StrictReading.{StrictSectionsAreRead}
use Rattle.qpack_spec.specs.WrittenLaws.{IsWritableLineUnder, IsWritableBlockUnder}
use Rattle.qpack_spec.specs.Text.{Coding}
use Rattle.qpack_spec.proofs.Lists.{every_left, every_right}
use Rattle.qpack_spec.proofs.Readings.{followed_ok}
use Rattle.qpack_spec.proofs.FormLaws.{form_again}
use Rattle.qpack_rules.proofs.Marked.{unmarked_lines}
use Rattle.qpack_rules.proofs.MarkedForms.{marked_lines_spelled, line_tells, line_length}
use Rattle.qpack_spec.proofs.BlockReadings.{prefix_spelled, prefix_again, written_read, spelled_length}
use Rattle.qpack_spec.proofs.BlockReadings.{joined_written}
use Rattle.qpack_rules.proofs.SectionLengths.{read_sections_short, lines_short, prefix_short}
use Rattle.qpack_spec.proofs.Prefixes.{strict_same}
use Rattle.qpack_rules.proofs.StrictReadings.{strict_none}
use Rattle.qpack_spec.proofs.Sizes.{total_first}

-- ---- one line

greatest_within : (n : ℕ) (xs : List ℕ) → AllByRecursion (λ a. a ≤ n) xs → greatest_of xs ≤ n
unfolding greatest_of
greatest_within n [] h = omega arith
greatest_within n (a ∷ xs) h = omega (arith, h.0, greatest_within n xs h.1)

line_read : (coding : Coding) (u : LinesUnder) (sum : ℕ) (l : Line) (f : FieldLine) (more : List ℕ) (first : ℕ) (rest : List ℕ)
    → IsWritableLineUnder coding l → (f.never_indexed ≡ true → is_literal l ≡ true)
    → AllByRecursion (λ a. a ≤ u.required) (references_of_line u.base l)
    → line_field u.window u.base l ≡ Ok f.field → sum + field_size f.field ≤ u.limit
    → coded_marked_line coding f.never_indexed l ≡ first ∷ rest
    → strict_line_at u sum first (rest ++ more) ≡ Ok (f, more)
unfolding strict_line_at strict_field within_size
line_read coding u sum l f more first rest w literal within means low e =
    let again : form_at line_form (coded_marked_line coding f.never_indexed l ++ more) ≡ Ok (l, more) =
    form_again line_form (coded_marked_line coding f.never_indexed l) more l
    (marked_lines_spelled coding f.never_indexed l w literal) in
    let again' : form_at line_form (first ∷ (rest ++ more)) ≡ Ok (l, more) = rw e at again in
    rw (
      again',
      le-leb (greatest_of (references_of_line u.base l)) u.required
          (greatest_within u.required (references_of_line u.base l) within),
      means,
      le-ltb u.limit (saturated_size (sum + field_size f.field)) (omega (arith, low)),
      line_tells coding f.never_indexed l w literal first rest e,
    ) refl

-- ---- lines

first_read : (coding : Coding) (steps : ℕ) (u : LinesUnder) (number sum : ℕ) (l : Line) (f : FieldLine) (fs : List FieldLine)
    (more : List ℕ) → IsWritableLineUnder coding l → (f.never_indexed ≡ true → is_literal l ≡ true)
    → AllByRecursion (λ a. a ≤ u.required) (references_of_line u.base l)
    → line_field u.window u.base l ≡ Ok f.field → sum + field_size f.field ≤ u.limit
    → strict_lines_at steps u (suc number) (sum + field_size f.field) more ≡ Ok fs
    → strict_lines_at (suc steps) u number sum (coded_marked_line coding f.never_indexed l ++ more) ≡ Ok (f ∷ fs)
unfolding strict_lines_at
first_read coding steps u number sum l f fs more w literal within means low behind =
    let s = marked_lines_spelled coding f.never_indexed l w literal in
    let e : coded_marked_line coding f.never_indexed l ++ more ≡ s.first ∷ (s.more ++ more) =
    ap (λ x. x ++ more) s.begins in
    rw (e, line_read coding u sum l f more s.first s.more w literal within means low s.begins, behind) refl

none_left : (gs : List FieldLine) → (let r : Result (List Field) Fault = Ok [] in r) ≡ Ok (fields_of_lines gs)
    → [] ≡ gs
none_left [] h = refl
none_left (g ∷ gs) h = absurd cc

lines_read : (coding : Coding) (steps : ℕ) (u : LinesUnder) (number sum : ℕ) (ls : List Line) (fs : List FieldLine)
    → AllByRecursion (IsWritableLineUnder coding) ls → AreLiteralsWhereMarked fs ls
    → AllByRecursion (λ a. a ≤ u.required) (references_of u.base ls)
    → fields_of u.window u.base ls ≡ Ok (fields_of_lines fs) → sum + total_size (fields_of_lines fs) ≤ u.limit
    → length (coded_marked_lines coding fs ls) ≤ steps
    → strict_lines_at steps u number sum (coded_marked_lines coding fs ls) ≡ Ok fs
unfolding coded_marked_lines coded_lines references_of fields_of
lines_read coding steps u number sum [] [] w literal within means low enough = strict_none steps u number sum
lines_read coding steps u number sum [] (f ∷ fs) w literal within means low enough =
    absurd (let e = none_left (f ∷ fs) means in cc)
lines_read coding steps u number sum (l ∷ ls) [] w literal within means low enough =
    let p = followed_ok (line_field u.window u.base l) (fields_of u.window u.base ls) [] means in
    absurd (let e = p.4 in cc)
lines_read coding zero u number sum (l ∷ ls) (f ∷ fs) w literal within means low enough =
    absurd (omega (
      arith,
      enough,
      spelled_length (coded_marked_line coding f.never_indexed l) (coded_marked_lines coding fs ls) l
          (marked_lines_spelled coding f.never_indexed l w.0 literal.0),
    ))
lines_read coding (suc steps) u number sum (l ∷ ls) (f ∷ fs) w literal within means low enough =
    let p = followed_ok (line_field u.window u.base l) (fields_of u.window u.base ls) (f.field ∷ fields_of_lines fs)
    means in
    let one : p.0 ≡ f.field = let e = p.4 in cc in
    let others : p.1 ≡ fields_of_lines fs = let e = p.4 in cc in
    let size : sum + (field_size f.field + total_size (fields_of_lines fs)) ≤ u.limit =
    omega (arith, low, total_first f.field (fields_of_lines fs)) in
    let short : length (coded_marked_lines coding fs ls) ≤ steps =
    omega (
      arith,
      enough,
      spelled_length (coded_marked_line coding f.never_indexed l) (coded_marked_lines coding fs ls) l
          (marked_lines_spelled coding f.never_indexed l w.0 literal.0),
    ) in
    first_read coding steps u number sum l f fs (coded_marked_lines coding fs ls) w.0 literal.0
    (every_left (λ a. a ≤ u.required) (references_of_line u.base l) (references_of u.base ls) within)
    (p.2 ∙ ap Ok one)
    (omega (arith, size))
    (lines_read coding steps u (suc number) (sum + field_size f.field) ls fs w.1 literal.1
    (every_right (λ a. a ≤ u.required) (references_of_line u.base l) (references_of u.base ls) within)
    (p.3 ∙ ap Ok others) (omega (arith, size)) short)

-- ---- sections

pub count_free : (maximum count : ℕ) → (maximum ≡ 0 → count ≡ 0) → (nat_eq maximum 0 && nat_lt 0 count) ≡ false
count_free zero count h = rw (h refl) refl
count_free (suc n) count h = rw (ne_eqb (suc n) 0 (λ e. absurd (omega (arith, e)))) refl

-- what is written is no longer than the limit lets a section be
written_short : (coding : Coding) (w : Window) (limit required base : ℕ) (b : Block) (fs : List Field) → IsWritableBlockUnder coding b
    → read_prefix (window_insert_count w) (maximum_capacity w.agreed_max w.capacity) b.prefix ≡ Ok (required, base)
    → required ≤ window_insert_count w → fields_of w base b.lines ≡ Ok fs → total_size fs ≤ limit
    → length (coded_block coding b) ≤ longest_section limit
unfolding reading
written_short coding w limit required base b fs k prefix received means low =
    let is : reading w b ≡ Fields fs (nat_lt 0 required) =
    rw (prefix, le-ltb (window_insert_count w) required received, means) refl in
    omega (
      arith,
      low,
      read_sections_short w (coded_block coding b) fs (nat_lt 0 required) (written_read coding w b k ∙ is),
    )

-- marks take no byte
pub lines_length : (coding : Coding) (fs : List FieldLine) (ls : List Line)
    → length (coded_marked_lines coding fs ls) ≡ length (coded_lines coding ls)
unfolding coded_marked_lines coded_lines
lines_length coding [] ls = refl
lines_length coding (f ∷ fs) [] = refl
lines_length coding (f ∷ fs) (l ∷ ls) =
    let one = line_length coding f.never_indexed l in
    let more = lines_length coding fs ls in
    let a = length-append (coded_marked_line coding f.never_indexed l) (coded_marked_lines coding fs ls) in
    let b = length-append (coded_line coding l) (coded_lines coding ls) in
    omega (arith, one, more, a, b)

marked_short : (coding : Coding) (b : Block) (fs : List FieldLine) (limit : ℕ) → length (coded_block coding b) ≤ longest_section limit
    → length (written_prefix b.prefix ++ coded_marked_lines coding fs b.lines) ≤ longest_section limit
unfolding coded_block
marked_short coding b fs limit short =
    let same = lines_length coding fs b.lines in
    let a = length-append (written_prefix b.prefix) (coded_marked_lines coding fs b.lines) in
    let c = length-append (written_prefix b.prefix) (coded_lines coding b.lines) in
    omega (arith, short, same, a, c)

pub marked_sections_read : MarkedSectionsAreRead
unfolding strict_reading coded_marked_block
marked_sections_read coding w limit required base b fs k prefix received strict means literal low =
    let u : LinesUnder =
    record {
      window = w;
      required = required;
      base = base;
      limit = limit;
      section = length (written_prefix b.prefix ++ coded_marked_lines coding fs b.lines);
    } in
    rw (
      le-ltb (longest_section limit) (length (written_prefix b.prefix ++ coded_marked_lines coding fs b.lines))
          (marked_short coding b fs limit
          (written_short coding w limit required base b (fields_of_lines fs) k prefix received means low)),
      prefix_again (written_prefix b.prefix) (coded_marked_lines coding fs b.lines) b.prefix
          (prefix_spelled b.prefix k.prefix),
      count_free (maximum_capacity w.agreed_max w.capacity) b.prefix.count strict.no_count,
      strict_same (window_insert_count w) (maximum_capacity w.agreed_max w.capacity) required base b.prefix prefix
          strict.not_below,
      le-ltb (window_insert_count w) required received,
      lines_read coding (length (coded_marked_lines coding fs b.lines)) u 0 0 b.lines fs k.lines literal strict.references means
          (omega (arith, low)) (omega arith),
    ) refl

-- a section is no longer than any within the limit where its lines mean such fields under any window
block_short : (coding : Coding) (later : Window) (limit base : ℕ) (b : Block) (fs : List Field) → IsWritableBlockUnder coding b
    → fields_of later base b.lines ≡ Ok fs → total_size fs ≤ limit → length (coded_block coding b) ≤ longest_section limit
unfolding coded_block
block_short coding later limit base b fs k means low =
    omega (
      arith,
      low,
      length-append (written_prefix b.prefix) (coded_lines coding b.lines),
      prefix_short (written_prefix b.prefix) b.prefix (prefix_spelled b.prefix k.prefix),
      lines_short later base (coded_lines coding b.lines) b.lines fs (joined_written coding b.lines k.lines) means,
    )

pub marked_sections_blocked : MarkedSectionsAreBlocked
unfolding strict_reading coded_marked_block
marked_sections_blocked coding w later limit required base b fs k prefix missing no_count means low =
    rw (
      le-ltb (longest_section limit) (length (written_prefix b.prefix ++ coded_marked_lines coding fs b.lines))
          (marked_short coding b fs limit (block_short coding later limit base b (fields_of_lines fs) k means low)),
      prefix_again (written_prefix b.prefix) (coded_marked_lines coding fs b.lines) b.prefix
          (prefix_spelled b.prefix k.prefix),
      count_free (maximum_capacity w.agreed_max w.capacity) b.prefix.count no_count,
      strict_same (window_insert_count w) (maximum_capacity w.agreed_max w.capacity) required base b.prefix prefix
          (λ none. absurd (omega (arith, none, missing))),
      lt-ltb (window_insert_count w) required missing,
    ) refl

-- ---- where no field is marked

fields_again : (fs : List Field) → fields_of_lines (map unmarked fs) ≡ fs
fields_again [] = refl
fields_again (f ∷ fs) = ap (λ (gs : List Field). f ∷ gs) (fields_again fs)

none_marked : (fs : List Field) (ls : List Line) → AreLiteralsWhereMarked (map unmarked fs) ls
none_marked [] ls = tt
none_marked (f ∷ fs) [] = tt
none_marked (f ∷ fs) (l ∷ ls) = (λ e. absurd cc, none_marked fs ls)

unmarked_block : (coding : Coding) (fs : List Field) (b : Block) → coded_marked_block coding (map unmarked fs) b ≡ coded_block coding b
unfolding coded_marked_block coded_block
unmarked_block coding fs b = ap (λ (x : List ℕ). written_prefix b.prefix ++ x) (unmarked_lines fs coding b.lines)

pub strict_sections_read : StrictSectionsAreRead
strict_sections_read coding w limit required base b fs k prefix received strict means low =
    let again = fields_again fs in
    subst (λ (x : List ℕ). strict_reading w limit x ≡ Read (indexable fs) required) (unmarked_block coding fs b)
    (marked_sections_read coding w limit required base b (map unmarked fs) k prefix received strict
    (means ∙ ap Ok (sym again)) (none_marked fs b.lines)
    (subst (λ (gs : List Field). total_size gs ≤ limit) (sym again) low))
