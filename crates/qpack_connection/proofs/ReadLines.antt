-- The lines that a strict decoder reads are lines that a lawful encoder may have written.
use Rattle.std.proofs.Common.{ℕ, zero, suc, ◌+◌, ◌-◌, ◌<◌, ◌≤◌, ◌≡◌, Bool, List, [], ◌∷◌, ◌++◌, length, Option, None}
use Rattle.std.proofs.Common.{Some, Result, Ok, Err, inl, inr, refl, sym, ap, ◌∙◌, subst, arith}
use Rattle.std.specs.Prelude.{nat_lt, nat_le, slice_get, ◌&&◌, drop}
use Rattle.std.specs.List.{AllByRecursion}
use Rattle.std.proofs.lemmas.Bool.{ltb-true, leb-true, and_parts}
use Rattle.qpack_spec.specs.Bytes.{◌>>=◌}
use Rattle.qpack_spec.specs.Field.{Field, FieldLine, field_size}
use Rattle.qpack_spec.specs.Form.{FormFault, form_at}
use Rattle.qpack_spec.specs.History.{History, window_of}
use Rattle.qpack_rules.specs.LawfulEncoders.{IsInsertion, MeansLine, MayBeReferenced, SpellsField}
use Rattle.qpack_spec.specs.Line.{Line, IndexedStatic, IndexedDynamic, IndexedPostBase, NamedStatic, NamedDynamic}
use Rattle.qpack_spec.specs.Line.{NamedPostBase, Literal, line_form}
use Rattle.qpack_spec.specs.Reading.{Fault, or_fault, static_field, relative_field, post_base_field, field_with_value}
use Rattle.qpack_spec.specs.Reading.{line_field, references_of_line, greatest_of}
use Rattle.qpack_spec.specs.BlockReading.{or_bad_form}
use Rattle.qpack_spec.specs.Stream.{SpellsAll}
use Rattle.qpack_spec.specs.StrictReading.{LinesUnder, LineFault, or_meaningless, or_in_line, within_size}
use Rattle.qpack_spec.specs.StrictReading.{strict_field, strict_line_at, strict_lines_at, is_never_indexed}
use Rattle.qpack_spec.specs.Window.{Window, with_value}
use Rattle.qpack_spec.proofs.FormLaws.{form_takes}
use Rattle.qpack_spec.proofs.Lists.{get_drop}
use Rattle.qpack_spec.proofs.Results.{bind_ok, chosen, ok_is, ok_pair}
use Rattle.qpack_spec.proofs.BlockReadings.{spelled_length}
use Rattle.qpack_rules.proofs.StrictReadings.{strict_none}

-- ---- what is there

there : (o : Option Field) (e : Fault) (f : Field) → or_fault o e ≡ Ok f → o ≡ Some f
there None e f q = absurd cc
there (Some g) e f q = cc

insertion_read : (made : History) (a : ℕ) (f : Field) → made.dropped < a
    → slice_get (drop made.dropped made.inserted) (a - made.dropped - 1) ≡ Some f → IsInsertion made.inserted a f
insertion_read made a f low q = (
  omega (arith, low),
  let e : made.dropped + (a - made.dropped - 1) ≡ a - 1 = omega (arith, low) in
      ap (slice_get made.inserted) (sym e) ∙ sym (get_drop made.dropped made.inserted (a - made.dropped - 1)) ∙ q,
)

-- an entry that was found below the base, or above it
abbrev IsFound : History → ℕ → Field → Type 0
IsFound made a f = (made.dropped < a) × IsInsertion made.inserted a f

relative_found : (made : History) (base i : ℕ) (f : Field) → relative_field (window_of made) base i ≡ Ok f
    → IsFound made (base - i) f
unfolding relative_field window_of
relative_found made base i f e =
    elim (chosen (nat_lt made.dropped (base - i) && nat_lt 0 (length (drop made.dropped made.inserted))) _ _ (Ok f) e) [
      | inl k ↦
          let low = ltb-true made.dropped (base - i) (and_parts _ _ k.0).0 in
          (low, insertion_read made (base - i) f low (there _ _ f k.1))
      | inr k ↦ absurd (let x = k.1 in cc)
    ]

post_base_found : (made : History) (base i : ℕ) (f : Field) → post_base_field (window_of made) base i ≡ Ok f
    → IsFound made (base + i + 1) f
unfolding post_base_field window_of
post_base_found made base i f e =
    elim (chosen (nat_lt made.dropped (base + i + 1)) _ _ (Ok f) e) [
      | inl k ↦
          let low = ltb-true made.dropped (base + i + 1) k.0 in
          let same : base + i - made.dropped ≡ base + i + 1 - made.dropped - 1 = omega (arith, low) in (
            low,
            insertion_read made (base + i + 1) f low
                (ap (slice_get (drop made.dropped made.inserted)) (sym same) ∙ there _ _ f k.1),
          )
      | inr k ↦ absurd (let x = k.1 in cc)
    ]

valued : (v : List ℕ) (r : Result Field Fault) (f : Field) → field_with_value v r ≡ Ok f
    → (g : Field) × (r ≡ Ok g) × (f ≡ with_value v g)
valued v (Ok g) f e = (g, refl, sym (ok_is (with_value v g) f e))
valued v (Err d) f e = absurd cc

-- ---- a line

-- what a line means that was read, of all insertions
record IsMeant (made : History) (required base : ℕ) (l : Line) (f : Field) : Type 0 where
  pub means : MeansLine made.inserted base l f
  pub references : AllByRecursion (MayBeReferenced made required) (references_of_line base l)

line_meant : (made : History) (required base : ℕ) (l : Line) (f : Field)
    → greatest_of (references_of_line base l) ≤ required → line_field (window_of made) base l ≡ Ok f
    → IsMeant made required base l f
unfolding line_field references_of_line greatest_of static_field
line_meant made required base (IndexedStatic i) f low e =
    record { means = there _ _ f e; references = tt }
line_meant made required base (IndexedDynamic i) f low e =
    let k = relative_found made base i f e in
    record { means = k.1; references = ((k.0, omega (arith, low)), tt) }
line_meant made required base (IndexedPostBase i) f low e =
    let k = post_base_found made base i f e in
    record { means = k.1; references = ((k.0, omega (arith, low)), tt) }
line_meant made required base (NamedStatic i v) f low e =
    let g = valued v _ f e in
    record { means = (g.0, there _ _ g.0 g.1, g.2); references = tt }
line_meant made required base (NamedDynamic i v) f low e =
    let g = valued v _ f e in
    let k = relative_found made base i g.0 g.1 in
    record { means = (g.0, k.1, g.2); references = ((k.0, omega (arith, low)), tt) }
line_meant made required base (NamedPostBase i v) f low e =
    let g = valued v _ f e in
    let k = post_base_found made base i g.0 g.1 in
    record { means = (g.0, k.1, g.2); references = ((k.0, omega (arith, low)), tt) }
line_meant made required base (Literal n v) f low e =
    record { means = sym (ok_is _ f e); references = tt }

-- a line that references nothing means the same from every base
other_base : (made : History) (base other : ℕ) (l : Line) (f : Field) → IsMeant made 0 base l f
    → IsMeant made 0 other l f
unfolding references_of_line
other_base made base other (IndexedStatic i) f m = record { means = m.means; references = tt }
other_base made base other (IndexedDynamic i) f m = absurd (omega (arith, m.references.0.0, m.references.0.1))
other_base made base other (IndexedPostBase i) f m = absurd (omega (arith, m.references.0.0, m.references.0.1))
other_base made base other (NamedStatic i v) f m = record { means = m.means; references = tt }
other_base made base other (NamedDynamic i v) f m = absurd (omega (arith, m.references.0.0, m.references.0.1))
other_base made base other (NamedPostBase i v) f m = absurd (omega (arith, m.references.0.0, m.references.0.1))
other_base made base other (Literal n v) f m = record { means = m.means; references = tt }

-- ---- the lines

form_good : {A : Type 0} (r : Result A FormFault) (x : A) → or_meaningless (or_bad_form r) ≡ Ok x → r ≡ Ok x
form_good (Ok y) x e = cc
form_good (Err d) x e = absurd cc

meaning_good : {A : Type 0} (r : Result A Fault) (x : A) → or_meaningless r ≡ Ok x → r ≡ Ok x
meaning_good (Ok y) x e = cc
meaning_good (Err d) x e = absurd cc

place_good : {A : Type 0} (number offset : ℕ) (r : Result A LineFault) (x : A) → or_in_line number offset r ≡ Ok x
    → r ≡ Ok x
place_good number offset (Ok y) x e = cc
place_good number offset (Err d) x e = absurd cc

size_good : (limit sum : ℕ) (f g : Field) → within_size limit sum f ≡ Ok g → f ≡ g
unfolding within_size
size_good limit sum f g e =
    elim (chosen (nat_lt limit _) _ _ (Ok g) e) [
      | inl k ↦ absurd (let x = k.1 in cc)
      | inr k ↦ ok_is f g k.1
    ]

field_good : (u : LinesUnder) (l : Line) (f : Field) → strict_field u l ≡ Ok f
    → (greatest_of (references_of_line u.base l) ≤ u.required) × (line_field u.window u.base l ≡ Ok f)
unfolding strict_field
field_good u l f e =
    elim (chosen (nat_le (greatest_of (references_of_line u.base l)) u.required) _ _ (Ok f) e) [
      | inl k ↦ (leb-true _ _ k.0, meaning_good (line_field u.window u.base l) f k.1)
      | inr k ↦ absurd (let x = k.1 in cc)
    ]

same_first : (a b : ℕ) (xs ys encoding rest : List ℕ) → a ∷ xs ≡ encoding ++ rest → encoding ≡ b ∷ ys → a ≡ b
same_first a b xs ys encoding rest p q = let e : a ∷ xs ≡ b ∷ (ys ++ rest) = p ∙ ap (λ x. x ++ rest) q in cc

line_is : (g : Field) (b : Bool) (f : FieldLine) → (let x : FieldLine = record { field = g; never_indexed = b } in x) ≡ f
    → (g ≡ f.field) × (b ≡ f.never_indexed)
line_is g b f e = (ap (λ (x : FieldLine). x.field) e, ap (λ (x : FieldLine). x.never_indexed) e)

-- a line that is read is one that may have been written
record IsLawfulLine (made : History) (required base : ℕ) (bytes : List ℕ) (f : FieldLine) (rest : List ℕ) :
    Type 0 where
  pub encoding : List ℕ
  pub parts : bytes ≡ encoding ++ rest
  pub spells : SpellsField made required base encoding f

line_lawful : (made : History) (u : LinesUnder) (sum first : ℕ) (more : List ℕ) (f : FieldLine) (rest : List ℕ)
    → u.window ≡ window_of made → strict_line_at u sum first more ≡ Ok (f, rest)
    → IsLawfulLine made u.required u.base (first ∷ more) f rest
unfolding strict_line_at
line_lawful made u sum first more f rest window e =
    let l = bind_ok (or_meaningless (or_bad_form (form_at line_form (first ∷ more))))
    (λ r. strict_field u r.0 >>= λ f. within_size u.limit sum f
    >>= λ g. Ok (record { field = g; never_indexed = is_never_indexed first }, r.1)) (f, rest) e in
    let k = form_takes line_form (first ∷ more) l.0.0 l.0.1 (form_good _ l.0 l.1) in
    let found = bind_ok (strict_field u l.0.0)
    (λ f. within_size u.limit sum f >>= λ g. Ok (record { field = g; never_indexed = is_never_indexed first }, l.0.1))
    (f, rest) l.2 in
    let fits = bind_ok (within_size u.limit sum found.0)
    (λ g. Ok (record { field = g; never_indexed = is_never_indexed first }, l.0.1)) (f, rest) found.2 in
    let whole = ok_pair (record { field = fits.0; never_indexed = is_never_indexed first }) f l.0.1 rest fits.2 in
    let good = field_good u l.0.0 found.0 found.1 in
    let is = line_is fits.0 (is_never_indexed first) f whole.0 in
    let same : found.0 ≡ f.field =
    subst (λ (x : Field). found.0 ≡ x) is.0 (size_good u.limit sum found.0 fits.0 fits.1) in
    let meant = line_meant made u.required u.base l.0.0 f.field good.0
    (subst (λ (w : Window). line_field w u.base l.0.0 ≡ Ok f.field) window
    (subst (λ (x : Field). line_field u.window u.base l.0.0 ≡ Ok x) same good.1)) in
    let head : first ≡ k.spells.first =
    same_first first k.spells.first more k.spells.more k.encoding l.0.1 k.parts k.spells.begins in
    record {
      encoding = k.encoding;
      parts = k.parts ∙ ap (λ x. k.encoding ++ x) whole.1;
      spells = record {
        line = l.0.0;
        spelled = k.spells;
        means = meant.means;
        marked = ap is_never_indexed (sym head) ∙ is.1;
        references = meant.references;
      };
    }

pub lines_lawful : (made : History) (u : LinesUnder) (steps number sum : ℕ) (bytes : List ℕ) (fs : List FieldLine)
    → u.window ≡ window_of made → length bytes ≤ steps → strict_lines_at steps u number sum bytes ≡ Ok fs
    → SpellsAll (SpellsField made u.required u.base) bytes fs
unfolding strict_lines_at
lines_lawful made u steps number sum [] fs window enough e =
    subst (SpellsAll (SpellsField made u.required u.base) []) (ok_is [] fs (sym (strict_none steps u number sum) ∙ e))
    refl
lines_lawful made u zero number sum (b ∷ bytes) fs window enough e = absurd (omega (arith, enough))
lines_lawful made u (suc steps) number sum (b ∷ bytes) fs window enough e =
    let r = bind_ok (or_in_line (suc number) (u.section - length (b ∷ bytes)) (strict_line_at u sum b bytes))
    (λ r. strict_lines_at steps u (suc number) (sum + field_size r.0.field) r.1 >>= λ fs. Ok (r.0 ∷ fs)) fs e in
    let one = line_lawful made u sum b bytes r.0.0 r.0.1 window (place_good _ _ _ r.0 r.1) in
    let more = bind_ok (strict_lines_at steps u (suc number) (sum + field_size r.0.0.field) r.0.1)
    (λ fs. Ok (r.0.0 ∷ fs)) fs r.2 in
    let short = spelled_length one.encoding r.0.1 one.spells.line one.spells.spelled in
    let others = lines_lawful made u steps (suc number) (sum + field_size r.0.0.field) r.0.1 more.0 window
    (omega (arith, enough, short, ap length one.parts)) more.1 in
    subst (SpellsAll (SpellsField made u.required u.base) (b ∷ bytes)) (ok_is (r.0.0 ∷ more.0) fs more.2)
    (one.encoding, r.0.1, one.parts, one.spells, others)

-- a section that requires nothing has the same lines from every base
plain_lines : (made : History) (base other : ℕ) (bytes : List ℕ) (fs : List FieldLine)
    → SpellsAll (SpellsField made 0 base) bytes fs → SpellsAll (SpellsField made 0 other) bytes fs
plain_lines made base other bytes [] s = s
plain_lines made base other bytes (f ∷ fs) s =
    let k = s.3 in
    let m = other_base made base other k.line f.field (record { means = k.means; references = k.references }) in (
      s.0,
      s.1,
      s.2,
      record {
        line = k.line;
        spelled = k.spelled;
        means = m.means;
        marked = k.marked;
        references = m.references;
      },
      plain_lines made base other s.1 fs s.4,
    )

pub lines_from : (made : History) (required base whole : ℕ) (bytes : List ℕ) (fs : List FieldLine)
    → (0 < required → whole ≡ base) → SpellsAll (SpellsField made required base) bytes fs
    → SpellsAll (SpellsField made required whole) bytes fs
lines_from made zero base whole bytes fs same s = plain_lines made base whole bytes fs s
lines_from made (suc n) base whole bytes fs same s =
    subst (λ (b : ℕ). SpellsAll (SpellsField made (suc n) b) bytes fs) (sym (same (omega arith))) s
