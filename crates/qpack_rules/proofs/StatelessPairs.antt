-- The stateless pair: what is written without a table is read without one.
use Rattle.std.proofs.Common.{◌≡◌, ℕ, zero, suc, ◌+◌, ◌*◌, ◌≤◌, Bool, false, List, [], ◌∷◌, ◌++◌, length, map, Option, None}
use Rattle.std.proofs.Common.{Some, Result, Ok, Err, refl, sym, ap, ◌∙◌, arith, lit≤, length-append}
use Rattle.std.specs.List.{AllByRecursion}
use Rattle.std.proofs.lemmas.Bool.{le-ltb}
use Rattle.std.proofs.lemmas.List.{append-nil, append_assoc}
use Rattle.qpack_spec.specs.Bytes.{◌>>=◌}
use Rattle.qpack_spec.specs.Field.{Field, field_size, has_name, is_field}
use Rattle.qpack_spec.specs.Integer.{written_integer}
use Rattle.qpack_spec.specs.Text.{Coding, coded_string}
use Rattle.qpack_spec.specs.StaticTable.{static_index, static_name_index}
use Rattle.qpack_spec.specs.Form.{FormFault, form_at}
use Rattle.qpack_spec.specs.Line.{Line, line_form, coded_line, coded_lines}
use Rattle.qpack_spec.specs.Prefix.{prefix_for}
use Rattle.qpack_spec.specs.Reading.{greatest_of}
use Rattle.qpack_spec.specs.BlockReading.{coded_block}
use Rattle.qpack_spec.specs.Table.{Table, empty_table, below_limit, last_position, newest_index, without_references}
use Rattle.qpack_spec.specs.Table.{insert_count}
use Rattle.qpack_spec.specs.Rule.{Draft, with_line, literal_by_entry, literal, insertion_or_literal, by_entry}
use Rattle.qpack_spec.specs.Rule.{by_static}
use Rattle.qpack_spec.specs.Rule.{rule_field, rule_fields, empty_draft, rule, block_of}
use Rattle.qpack_spec.specs.Stateless.{stateless_literal, stateless_line_of, stateless_line, stateless_block}
use Rattle.qpack_spec.specs.Stateless.{StatelessFault}
use Rattle.qpack_spec.specs.Stateless.{stateless_field, or_bad_bytes, within_limit, stateless_at, stateless_reading}
use Rattle.qpack_spec.specs.Stateless.{RuleWithoutTable, up_to_limit, StatelessPairAgrees}
use Rattle.qpack_spec.specs.WrittenLaws.{IsWritableFieldUnder, IsWritableLineUnder}
use Rattle.qpack_spec.proofs.Readings.{static_means}
use Rattle.qpack_rules.proofs.StatelessMeanings.{none_alone}
use Rattle.qpack_spec.proofs.Positions.{static_found, static_name_found, named_field}
use Rattle.qpack_spec.proofs.FormLaws.{form_again}
use Rattle.qpack_spec.proofs.WrittenForms.{integer_starts, behind, integer_written, name_starts, lines_spelled}
use Rattle.qpack_spec.proofs.WrittenDrafts.{static_small}
use Rattle.qpack_spec.proofs.BlockReadings.{prefix_spelled, prefix_again}

-- ---- the rule without a table

nothing : Table
nothing = empty_table 0 None 0

none_newest : (p : Field → Bool) → newest_index nothing p ≡ None
unfolding newest_index last_position nothing
none_newest p = refl

literal_is : (base : ℕ) (d : Draft) (f : Field) → d.table ≡ nothing → (o : Option ℕ)
    → literal base d f o ≡ with_line d (stateless_literal f o)
literal_is base d f e (Some i) = refl
literal_is base d f e None =
    ap (literal_by_entry base d f)
    (ap (λ (t : Table). newest_index t (has_name f.name)) e ∙ none_newest (has_name f.name))

no_insertion : (base : ℕ) (d : Draft) (f : Field) → d.table ≡ nothing
    → insertion_or_literal base d f ≡ literal base d f (static_name_index f.name)
unfolding nothing
no_insertion base d f e = rw (ap (λ (t : Table). below_limit t) e) refl

static_is : (base : ℕ) (d : Draft) (f : Field) → d.table ≡ nothing → (o : Option ℕ)
    → by_static base d f o ≡ with_line d (stateless_line_of f o)
static_is base d f e (Some i) = refl
static_is base d f e None =
    ap (by_entry base d f) (ap (λ (t : Table). newest_index t (is_field f)) e ∙ none_newest (is_field f))
    ∙ no_insertion base d f e ∙ literal_is base d f e (static_name_index f.name)

field_is : (base : ℕ) (d : Draft) (f : Field) → d.table ≡ nothing → rule_field base d f ≡ with_line d (stateless_line f)
unfolding rule_field
field_is base d f e = static_is base d f e (static_index f)

drafted : List Line → Draft
drafted ls = record { table = nothing; lines = ls; instructions = [] }

drafted_table : (ls : List Line) → (drafted ls).table ≡ nothing
unfolding drafted
drafted_table ls = refl

drafted_writes : (ls : List Line) (l : Line) → with_line (drafted ls) l ≡ drafted (ls ++ l ∷ [])
unfolding drafted
drafted_writes ls l = refl

fields_are : (base : ℕ) (ls : List Line) (fs : List Field)
    → rule_fields base (drafted ls) fs ≡ drafted (ls ++ map (λ f. stateless_line f) fs)
fields_are base ls [] = ap drafted (sym (append-nil ls))
fields_are base ls (f ∷ fs) =
    ap (λ d. rule_fields base d fs) (field_is base (drafted ls) f (drafted_table ls)
    ∙ drafted_writes ls (stateless_line f))
    ∙ fields_are base (ls ++ stateless_line f ∷ []) fs
    ∙ ap drafted (append_assoc ls (stateless_line f ∷ []) (map (λ g. stateless_line g) fs))

blank_is : empty_draft nothing ≡ drafted []
unfolding drafted without_references nothing
blank_is = refl

block_is : (ls : List Line) → block_of nothing (drafted ls)
    ≡ record { prefix = record { count = 0; sign = false; delta = 0 }; lines = ls }
unfolding drafted nothing prefix_for greatest_of
block_is ls = refl

rule_is : (fs : List Field) → rule nothing fs ≡ drafted (map (λ f. stateless_line f) fs)
unfolding rule
rule_is fs = ap (λ d. rule_fields (insert_count nothing) d fs) blank_is ∙ fields_are (insert_count nothing) [] fs

pub rule_without : RuleWithoutTable
unfolding nothing
rule_without fs = ap (block_of nothing) (rule_is fs) ∙ block_is (map (λ f. stateless_line f) fs)

-- ---- reading what was written

-- each line can be written, is no post-base line, and means its field
record WrittenAlone (coding : Coding) (f : Field) (l : Line) : Type 0 where
  pub writable : IsWritableLineUnder coding l
  pub means : stateless_field l ≡ Ok f
  pub first : ℕ
  pub more : List ℕ
  pub begins : coded_line coding l ≡ first ∷ more
  pub high : 32 ≤ first

literal_written : (coding : Coding) (f : Field) → IsWritableFieldUnder coding f → (o : Option ℕ) → static_name_index f.name ≡ o
    → WrittenAlone coding f (stateless_literal f o)
unfolding coded_line
literal_written coding f w (Some i) e =
    let at = static_name_found f.name i e in
    let small = static_small i at.0 at.1 in
    let s = behind 4 5 (written_integer 4 5 i) (coded_string coding 8 0 f.value)
    (integer_starts 4 (written_integer 4 5 i) 5 i (integer_written 4 5 i (lit≤ tt) (lit≤ tt) (lit≤ tt) small)) in
    record {
      writable = (small, w.1);
      means = rw (static_means i at.0 at.1) (ap (λ (g : Field). let r : Result Field StatelessFault = Ok g in
          r) (named_field f at.0 at.2));
      first = s.first;
      more = s.more;
      begins = s.begins;
      high = omega (arith, s.high);
    }
literal_written coding f w None e =
    let start = name_starts coding 3 2 f.name (lit≤ tt) (lit≤ tt) (lit≤ tt) w.0.size in
    let s = behind 3 (2 * 2 + start.huffman) (coded_string coding 4 2 f.name) (coded_string coding 8 0 f.value) start.starts in
    record {
      writable = (w.0, w.1);
      means = refl;
      first = s.first;
      more = s.more;
      begins = s.begins;
      high = omega (arith, s.high);
    }

line_written : (coding : Coding) (f : Field) → IsWritableFieldUnder coding f → (o : Option ℕ) → static_index f ≡ o
    → WrittenAlone coding f (stateless_line_of f o)
unfolding coded_line
line_written coding f w (Some i) e =
    let at = static_found f i e in
    let small = static_small i f at in
    let s = integer_starts 6 (written_integer 6 3 i) 3 i (integer_written 6 3 i (lit≤ tt) (lit≤ tt) (lit≤ tt) small) in
    record {
      writable = small;
      means = rw (static_means i f at) refl;
      first = s.first;
      more = s.more;
      begins = s.begins;
      high = omega (arith, s.high);
    }
line_written coding f w None e = literal_written coding f w (static_name_index f.name) refl

-- what is read of the next line, and behind it
next_alone : ℕ → ℕ → ℕ → Result (Line × List ℕ) FormFault → Result (List Field) StatelessFault
next_alone steps limit sum r =
    or_bad_bytes r >>= λ l. stateless_field l.0 >>= λ f. within_limit limit sum f
    >>= λ g. stateless_at steps limit (sum + field_size g) l.1 >>= λ fs. Ok (g ∷ fs)

next_is : (steps limit sum b : ℕ) (bytes : List ℕ) → 32 ≤ b
    → stateless_at (suc steps) limit sum (b ∷ bytes) ≡ next_alone steps limit sum (form_at line_form (b ∷ bytes))
unfolding stateless_at next_alone
next_is steps limit sum b bytes h = rw (le-ltb b 32 h) refl

next_read : (steps limit sum : ℕ) (l : Line) (rest : List ℕ) (f : Field) → stateless_field l ≡ Ok f
    → next_alone steps limit sum (Ok (l, rest))
    ≡ (within_limit limit sum f >>= λ g. stateless_at steps limit (sum + field_size g) rest >>= λ fs. Ok (g ∷ fs))
unfolding next_alone
next_read steps limit sum l rest f e = rw e refl

-- within the limit, what goes on behind is the same
same_behind : (r : Result Field StatelessFault) (f : Field) (h k : Field → Result (List Field) StatelessFault)
    → ((g : Field) → h g ≡ k g) → (r >>= h) ≡ (r >>= k)
same_behind (Ok g) f h k e = e g
same_behind (Err d) f h k e = refl

lines_cons : (coding : Coding) (l : Line) (ls : List Line)
    → coded_lines coding (l ∷ ls) ≡ coded_line coding l ++ coded_lines coding ls
unfolding coded_lines
lines_cons coding l ls = refl

no_lines : (coding : Coding) → coded_lines coding [] ≡ []
unfolding coded_lines
no_lines coding = refl

read_alone : (coding : Coding) (steps limit sum : ℕ) (fs : List Field)
    → AllByRecursion (IsWritableFieldUnder coding) fs
    → length (coded_lines coding (map (λ f. stateless_line f) fs)) ≤ steps
    → stateless_at steps limit sum (coded_lines coding (map (λ f. stateless_line f) fs)) ≡ up_to_limit limit sum fs
read_alone coding steps limit sum [] w h = ap (stateless_at steps limit sum) (no_lines coding) ∙ none_alone steps limit sum
read_alone coding zero limit sum (f ∷ fs) w h =
    let a = line_written coding f w.0 (static_index f) refl in
    absurd (omega (
      arith,
      h,
      ap length (lines_cons coding (stateless_line f) (map (λ g. stateless_line g) fs)),
      length-append (coded_line coding (stateless_line f)) (coded_lines coding (map (λ g. stateless_line g) fs)),
      ap length
          a.begins,
    ))
read_alone coding (suc steps) limit sum (f ∷ fs) w h =
    let l = stateless_line f in
    let rest = coded_lines coding (map (λ g. stateless_line g) fs) in
    let a = line_written coding f w.0 (static_index f) refl in
    let split : coded_lines coding (l ∷ map (λ g. stateless_line g) fs) ≡ a.first ∷ (a.more ++ rest) =
    lines_cons coding l (map (λ g. stateless_line g) fs) ∙ ap (λ x. x ++ rest) a.begins in
    let read : form_at line_form (a.first ∷ (a.more ++ rest)) ≡ Ok (l, rest) =
    ap (form_at line_form) (ap (λ x. x ++ rest) (sym a.begins))
    ∙ form_again line_form (coded_line coding l) rest l (lines_spelled coding l a.writable) in
    let short : length rest ≤ steps = omega (arith, h, ap length split, length-append a.more rest) in
    ap (stateless_at (suc steps) limit sum) split ∙ next_is steps limit sum a.first (a.more ++ rest) a.high
    ∙ ap (next_alone steps limit sum) read ∙ next_read steps limit sum l rest f a.means
    ∙ same_behind (within_limit limit sum f) f (λ g. stateless_at steps limit (sum + field_size g) rest
    >>= λ gs. Ok (g ∷ gs)) (λ g. up_to_limit limit (sum + field_size g) fs >>= λ gs. Ok (g ∷ gs))
    (λ g. ap (λ (r : Result (List Field) StatelessFault). r
    >>= λ gs. (let q : Result (List Field) StatelessFault = Ok (g ∷ gs) in q))
    (read_alone coding steps limit (sum + field_size g) fs w.1 short))

pub pair_agrees : StatelessPairAgrees
unfolding stateless_reading coded_block
pair_agrees coding limit fs w =
    let b = stateless_block fs in
    rw (prefix_again _ (coded_lines coding b.lines) b.prefix
    (prefix_spelled b.prefix (record { count = lit≤ tt; delta = lit≤ tt })))
    (read_alone coding (length (coded_lines coding b.lines)) limit 0 fs w (omega arith))
