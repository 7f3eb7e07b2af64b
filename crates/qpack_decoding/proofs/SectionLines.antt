-- The lines of a section, read one behind the other.
use Rattle.std.proofs.Common.{◌≡◌, ℕ, zero, suc, ◌+◌, ◌-◌, ◌<◌, ◌≤◌, List, [], ◌∷◌, ◌++◌, length, Result, Ok, Err}
use Rattle.std.proofs.Common.{refl, sym, ap, subst, ◌∙◌, arith, append_assoc, append-nil, drop}
use Rattle.std.specs.Prelude.{slice_range, slice_get, None, Some}
use Rattle.std.proofs.lemmas.List.{take-append-le, drop-append-le, length-drop}
use Rattle.qpack_spec.specs.Bytes.{◌>>=◌}
use Rattle.qpack_spec.specs.Field.{field_size, FieldLine}
use Rattle.qpack_spec.specs.StrictReading.{LineFault, SectionFault, LinesUnder, or_in_line}
use Rattle.qpack_spec.specs.StrictReading.{strict_field, strict_line_at, strict_lines_at}
use Rattle.qpack_base.specs.Cursor.{CursorView}
use Rattle.qpack_decoding.specs.declared.field_section.Span.{Span}
use Rattle.qpack_decoding.specs.declared.section.LineError.{LineError}
use Rattle.qpack_decoding.specs.declared.section.LineError.TheVariants as line
use Rattle.qpack_decoding.specs.declared.section.lines.Lines.{Lines}
use Rattle.qpack_decoding.specs.FieldSections.{IsWithin, AreInTurn, field_at, fields_in}
use Rattle.qpack_decoding.specs.Lines.{FailsLine, under, Adds}
use Rattle.qpack_decoding.specs.Sections.{FailsSection, error_at}
use Rattle.qpack_decoding.proofs.SpansInTurn.{first_within}

-- ---- fields of a text that grows

cut_again : (text more : List ℕ) (i j : ℕ) → i ≤ j → j ≤ length text
    → slice_range (text ++ more) i j ≡ slice_range text i j
cut_again text more i j le within =
    let at : drop i (text ++ more) ≡ drop i text ++ more = drop-append-le i text more (omega (arith, le, within)) in
    let long : length (drop i text) ≡ length text - i = length-drop i text in
    rw at (take-append-le (j - i) (drop i text) more (omega (arith, le, within, long)))

field_again : (text more : List ℕ) (start : ℕ) (s : Span) → IsWithin (length text) start s
    → field_at (text ++ more) start s ≡ field_at text start s
field_again text more start s w =
    rw (
      cut_again text more start s.middle w.name (omega (arith, w.value, w.within)),
      cut_again text more s.middle s.end w.value w.within,
    ) refl

fields_again : (text more : List ℕ) (start : ℕ) (spans : List Span) → AreInTurn start spans (length text)
    → fields_in (text ++ more) start spans ≡ fields_in text start spans
fields_again text more start [] k = refl
fields_again text more start (s ∷ spans) (name, value, in_turn) =
    rw (
      field_again text more start s (first_within start (length text) s spans (name, value, in_turn)),
      fields_again text more s.end spans in_turn,
    ) refl

-- the last begins at the end of those before it
fields_last : (text : List ℕ) (start end : ℕ) (spans : List Span) (s : Span) → AreInTurn start spans end
    → fields_in text start (spans ++ s ∷ []) ≡ fields_in text start spans ++ field_at text end s ∷ []
fields_last text start end [] s k = ap (λ (n : ℕ). field_at text n s ∷ []) k
fields_last text start end (t ∷ spans) s (name, value, in_turn) =
    ap (λ fs. field_at text start t ∷ fs) (fields_last text t.end end spans s in_turn)

-- with one more field, the fields are those before it and it
pub fields_more : (old new : CursorView) (text_old text_new : List ℕ) (spans_old spans_new : List Span) (all sum : ℕ)
    (read : Result (FieldLine × List ℕ) LineFault)
    → (a : Adds old new text_old text_new spans_old spans_new all sum read)
    → AreInTurn 0 spans_old (length text_old)
    → fields_in text_new 0 spans_new ≡ fields_in text_old 0 spans_old ++ a.field ∷ []
fields_more old new text_old text_new spans_old spans_new all sum read a k =
    ap (fields_in text_new 0) a.spans ∙ fields_last text_new 0 (length text_old) spans_old a.span k
    ∙ ap (λ f. fields_in text_new 0 spans_old ++ f ∷ []) a.at
    ∙ ap (λ t. fields_in t 0 spans_old ++ a.field ∷ []) a.text
    ∙ ap (λ fs. fs ++ a.field ∷ []) (fields_again text_old a.more 0 spans_old k)

-- ---- the lines behind those that were read

abbrev pub with_front : List FieldLine → Result (List FieldLine) SectionFault → Result (List FieldLine) SectionFault
with_front front read = read >>= λ fs. Ok (front ++ fs)

-- the lines behind one
abbrev behind : ℕ → LinesUnder → ℕ → ℕ → FieldLine × List ℕ → Result (List FieldLine) SectionFault
behind k u number all r = strict_lines_at k u number (all + field_size r.0.field) r.1 >>= λ fs. Ok (r.0 ∷ fs)

same_line : {I F Key : Type 0} (l : Lines I F Key) (section all first : ℕ) (more : List ℕ)
    → strict_line_at (under l section) all first more ≡ strict_line_at (under l 0) all first more
unfolding strict_line_at strict_field
same_line l section all first more = refl

front_more : (front : List FieldLine) (f : FieldLine) (read : Result (List FieldLine) SectionFault)
    → with_front front (read >>= λ fs. Ok (f ∷ fs)) ≡ with_front (front ++ f ∷ []) read
front_more front f (Ok fs) =
    ap (λ (x : List FieldLine). let r : Result (List FieldLine) SectionFault = Ok x in r)
    (sym (append_assoc front (f ∷ []) fs))
front_more front f (Err e) = refl

-- what the lines that are left are of the whole
pub record Goes (u : LinesUnder) (number all : ℕ) (rest : List ℕ) (front : List FieldLine)
    (whole : Result (List FieldLine) SectionFault) : Type 0 where
  pub steps : ℕ
  pub enough : length rest ≤ steps
  pub is : with_front front (strict_lines_at steps u number all rest) ≡ whole

pub goes_end : (u : LinesUnder) (number all : ℕ) (rest : List ℕ) (front : List FieldLine)
    (whole : Result (List FieldLine) SectionFault) → Goes u number all rest front whole → rest ≡ [] → whole ≡ Ok front
unfolding strict_lines_at
goes_end u number all rest front whole g none =
    sym g.is ∙ ap (λ x. with_front front (strict_lines_at g.steps u number all x)) none
    ∙ ap (λ (x : List FieldLine). let r : Result (List FieldLine) SectionFault = Ok x in r) (append-nil front)

turn : (steps : ℕ) (u : LinesUnder) (number all first : ℕ) (more : List ℕ)
    → strict_lines_at (suc steps) u number all (first ∷ more)
    ≡ (or_in_line (suc number) (u.section - length (first ∷ more)) (strict_line_at u all first more)
    >>= behind steps u (suc number) all)
unfolding strict_lines_at
turn steps u number all first more = refl

-- by the next line
by_line : (u : LinesUnder) (number all : ℕ) (rest : List ℕ) (front : List FieldLine)
    (whole : Result (List FieldLine) SectionFault) (first : ℕ) (more : List ℕ) → Goes u number all rest front whole
    → rest ≡ first ∷ more
    → (steps : ℕ) × (length more ≤ steps)
    × (with_front front (or_in_line (suc number) (u.section - length rest) (strict_line_at u all first more)
    >>= behind steps u (suc number) all) ≡ whole)
by_line u number all rest front whole first more g cut = go g.steps g.enough g.is
  where
    go : (n : ℕ) → length rest ≤ n → with_front front (strict_lines_at n u number all rest) ≡ whole
        → (steps : ℕ) × (length more ≤ steps)
        × (with_front front (or_in_line (suc number) (u.section - length rest) (strict_line_at u all first more)
        >>= behind steps u (suc number) all) ≡ whole)
    go zero le is = absurd (omega (arith, le, ap length cut))
    go (suc n) le is = (
      n,
      omega (arith, le, ap length cut),
      ap (λ len. with_front front (or_in_line (suc number) (u.section - len) (strict_line_at u all first more)
          >>= behind n u (suc number) all)) (ap length cut)
          ∙ ap (with_front front) (sym (turn n u number all first more))
          ∙ ap (λ x. with_front front (strict_lines_at (suc n) u number all x)) (sym cut) ∙ is,
    )

pub goes_bad : {I F Key : Type 0} (l : Lines I F Key) (section number all : ℕ) (rest : List ℕ) (front : List FieldLine)
    (whole : Result (List FieldLine) SectionFault) (first : ℕ) (more : List ℕ) (e : LineError)
    → Goes (under l section) number all rest front whole → rest ≡ first ∷ more
    → FailsLine e (strict_line_at (under l 0) all first more)
    → FailsSection (error_at (suc number) (section - length rest) e) whole
goes_bad l section number all rest front whole first more e g cut bad =
    let b = by_line (under l section) number all rest front whole first more g cut in
    subst
    (λ (w : Result (List FieldLine) SectionFault). FailsSection (error_at (suc number) (section - length rest) e) w)
    b.2
    (go e (strict_line_at (under l section) all first more)
    (subst (λ (r : Result (FieldLine × List ℕ) LineFault). FailsLine e r)
    (sym (same_line l section all first more)) bad)
    b.0)
  where
    go : (e : LineError) (r : Result (FieldLine × List ℕ) LineFault) → FailsLine e r → (steps : ℕ)
        → FailsSection (error_at (suc number) (section - length rest) e)
        (with_front front (or_in_line (suc number) (section - length rest) r
        >>= behind steps (under l section) (suc number) all))
    go line.Memory r h steps = tt
    go (line.Meaningless d) (Err x) h steps = (refl, refl, h)
    go (line.PastRequired i) (Err x) h steps = (refl, refl, h)
    go (line.TooLarge s) (Err x) h steps = (refl, refl, h)
    go (line.Meaningless d) (Ok x) h steps = absurd h
    go (line.PastRequired i) (Ok x) h steps = absurd h
    go (line.TooLarge s) (Ok x) h steps = absurd h

pub goes_on : {I F Key : Type 0} (l : Lines I F Key) (section number all : ℕ) (rest : List ℕ) (front : List FieldLine)
    (whole : Result (List FieldLine) SectionFault) (first : ℕ) (more : List ℕ) (f : FieldLine) (behind_it : List ℕ)
    → Goes (under l section) number all rest front whole → rest ≡ first ∷ more
    → strict_line_at (under l 0) all first more ≡ Ok (f, behind_it) → length behind_it < length rest
    → Goes (under l section) (suc number) (all + field_size f.field) behind_it (front ++ f ∷ []) whole
goes_on l section number all rest front whole first more f behind_it g cut read shorter =
    let b = by_line (under l section) number all rest front whole first more g cut in
    let u = under l section in
    record {
      steps = b.0;
      enough = omega (arith, shorter, ap length cut, b.1);
      is = sym (front_more front f (strict_lines_at b.0 u (suc number) (all + field_size f.field) behind_it))
          ∙ ap (λ r. with_front front (or_in_line (suc number) (section - length rest) r
          >>= behind b.0 u (suc number) all)) (sym (same_line l section all first more ∙ read))
          ∙ b.2;
    }

-- ---- what is at the front

pub first_is : (xs : List ℕ) (b : ℕ) → slice_get xs 0 ≡ Some b → xs ≡ b ∷ drop 1 xs
first_is [] b e = absurd cc
first_is (x ∷ xs) b e = let same : x ≡ b = cc in ap (λ y. y ∷ xs) same

pub none_is : (xs : List ℕ) → slice_get xs 0 ≡ None → xs ≡ []
none_is [] e = refl
none_is (x ∷ xs) e = absurd cc
