-- A line that is read: its span, and the sum of sizes.
use Rattle.std.proofs.Common.{◌≡◌, ℕ, ◌+◌, ◌-◌, ◌<◌, ◌≤◌, ◌^◌, Bool, List, ◌∷◌, ◌++◌, length, Result, Ok}
use Rattle.std.proofs.Common.{Err, refl, sym, ap, ◌∙◌, arith, append_assoc, length-append, take, drop, min}
use Rattle.std.specs.Prelude.{slice_range}
use Rattle.std.proofs.Math.Seq.{take-append_seam, drop-append_seam, take-length}
use Rattle.std.proofs.lemmas.Bool.{lt-ltb, le-ltb}
use Rattle.qpack_spec.specs.Bytes.{◌>>=◌}
use Rattle.qpack_spec.specs.Field.{Field, field_size, FieldLine}
use Rattle.qpack_spec.specs.Form.{FormFault, form_at}
use Rattle.qpack_spec.specs.Line.{Line, line_form}
use Rattle.qpack_spec.specs.Stateless.{saturated_size}
use Rattle.qpack_spec.specs.StrictReading.{LineFault, TooLarge, LinesUnder, strict_field, within_size}
use Rattle.qpack_spec.specs.StrictReading.{is_never_indexed, strict_line_at}
use Rattle.qpack_spec.proofs.Results.{ok_pair}
use Rattle.qpack_spec.proofs.FormLaws.{form_takes}
use Rattle.qpack_spec.proofs.BlockReadings.{spelled_length}
use Rattle.qpack_decoding.specs.declared.field_section.Span.{Span}
use Rattle.qpack_decoding.specs.declared.section.LineError.{LineError}
use Rattle.qpack_decoding.specs.FieldSections.{IsWithin, field_at}
use Rattle.qpack_decoding.specs.Lines.{FailsLine, or_bad_line, field_of_form}
use Rattle.qpack_decoding.proofs.LineParts.{fails_by}

-- a field, as it is read of a line that begins so
abbrev pub read_of : ℕ → Field → FieldLine
read_of first f = record { field = f; never_indexed = is_never_indexed first }

-- the field of a line, within the limit
abbrev pub within_line : LinesUnder → ℕ → ℕ → Result (Field × List ℕ) LineFault → Result (FieldLine × List ℕ) LineFault
within_line u all first r = r >>= λ x. within_size u.limit all x.0 >>= λ g. Ok (read_of first g, x.1)

line_is : (u : LinesUnder) (all first : ℕ) (more : List ℕ)
    → strict_line_at u all first more ≡ within_line u all first (field_of_form u (form_at line_form (first ∷ more)))
unfolding strict_line_at
line_is u all first more = go (form_at line_form (first ∷ more))
  where
    meant : (r : Result Field LineFault) (rest : List ℕ)
        → (r >>= λ f. within_size u.limit all f >>= λ g. Ok (read_of first g, rest))
        ≡ within_line u all first (r >>= λ f. Ok (f, rest))
    meant (Ok f) rest = refl
    meant (Err e) rest = refl

    go : (r : Result (Line × List ℕ) FormFault)
        → (or_bad_line r >>= λ r. strict_field u r.0 >>= λ f. within_size u.limit all f
        >>= λ g. Ok (read_of first g, r.1))
        ≡ within_line u all first (field_of_form u r)
    go (Ok r) = meant (strict_field u r.0) r.1
    go (Err e) = refl

-- the same, where the line is what the bytes are
pub line_at : (u : LinesUnder) (all first : ℕ) (bytes more : List ℕ) → bytes ≡ first ∷ more
    → strict_line_at u all first more ≡ within_line u all first (field_of_form u (form_at line_form bytes))
line_at u all first bytes more cut =
    line_is u all first more ∙ ap (λ x. within_line u all first (field_of_form u (form_at line_form x))) (sym cut)

pub line_fails : (u : LinesUnder) (all first : ℕ) (bytes more : List ℕ) (e : LineError) → bytes ≡ first ∷ more
    → FailsLine e (field_of_form u (form_at line_form bytes)) → FailsLine e (strict_line_at u all first more)
line_fails u all first bytes more e cut h =
    fails_by e (field_of_form u (form_at line_form bytes)) (strict_line_at u all first more) h
    (λ x q. line_at u all first bytes more cut ∙ ap (within_line u all first) q)

pub line_large : (u : LinesUnder) (all first : ℕ) (bytes more rest : List ℕ) (f : Field) → bytes ≡ first ∷ more
    → field_of_form u (form_at line_form bytes) ≡ Ok (f, rest) → u.limit < saturated_size (all + field_size f)
    → strict_line_at u all first more ≡ Err (TooLarge (saturated_size (all + field_size f)))
unfolding within_size
line_large u all first bytes more rest f cut q h =
    line_at u all first bytes more cut ∙ ap (within_line u all first) q
    ∙ (rw (lt-ltb u.limit (saturated_size (all + field_size f)) h) refl)

pub line_read : (u : LinesUnder) (all first : ℕ) (bytes more rest : List ℕ) (f : Field) → bytes ≡ first ∷ more
    → field_of_form u (form_at line_form bytes) ≡ Ok (f, rest) → saturated_size (all + field_size f) ≤ u.limit
    → strict_line_at u all first more ≡ Ok (read_of first f, rest)
unfolding within_size
line_read u all first bytes more rest f cut q h =
    line_at u all first bytes more cut ∙ ap (within_line u all first) q
    ∙ (rw (le-ltb u.limit (saturated_size (all + field_size f)) h) refl)

-- a line takes a byte at least
pub line_shortens : (u : LinesUnder) (bytes : List ℕ) (f : Field) (rest : List ℕ)
    → field_of_form u (form_at line_form bytes) ≡ Ok (f, rest) → length rest < length bytes
line_shortens u bytes f rest e = go (form_at line_form bytes) refl e
  where
    meant : (r : Result Field LineFault) (left : List ℕ)
        → (let p : Result (Field × List ℕ) LineFault = (r >>= λ g. Ok (g, left)) in p) ≡ Ok (f, rest) → left ≡ rest
    meant (Ok g) left h = (ok_pair g f left rest h).1
    meant (Err x) left h = absurd cc

    go : (r : Result (Line × List ℕ) FormFault) → form_at line_form bytes ≡ r → field_of_form u r ≡ Ok (f, rest)
        → length rest < length bytes
    go (Ok l) q h =
        let t = form_takes line_form bytes l.0 l.1 q in
        omega (
          arith,
          ap length (meant (strict_field u l.0) l.1 h),
          ap length t.parts,
          spelled_length t.encoding l.1 l.0 t.spells,
        )
    go (Err x) q h = absurd cc

-- ---- the text

pub text_again : (old new more : List ℕ) (k : ℕ) → length old ≡ k → new ≡ old ++ more → take k new ≡ old
text_again old new more k e n =
    ap (λ x. take k x) n ∙ ap (λ i. take i (old ++ more)) (sym e) ∙ take-append_seam old more

name_cut : (old name value : List ℕ) → slice_range (old ++ name ++ value) (length old) (length old + length name) ≡ name
name_cut old name value =
    let front : length old + length name - length old ≡ length name = omega arith in
    rw (front, append_assoc old name value, drop-append_seam old (name ++ value)) (take-append_seam name value)

value_cut : (old name value : List ℕ) (end : ℕ) → end ≡ length old + length name + length value
    → slice_range (old ++ name ++ value) (length old + length name) end ≡ value
value_cut old name value end is =
    let back : end - (length old + length name) ≡ length value = omega (arith, is) in
    let at : drop (length old + length name) (old ++ name ++ value) ≡ value =
    ap (λ i. drop i (old ++ name ++ value)) (sym (length-append old name)) ∙ drop-append_seam (old ++ name) value in
    rw (back, at) (take-length value)

-- how long the text is with a field
pub length_with : (old new : List ℕ) (f : Field) → new ≡ old ++ f.name ++ f.value
    → length new ≡ length old + length f.name + length f.value
length_with old new f text =
    omega (arith, ap length text, length-append (old ++ f.name) f.value, length-append old f.name)

-- the span of a field that stands behind the text
pub span_of : (old new : List ℕ) (middle end first : ℕ) (f : Field) (never : Bool) → new ≡ old ++ f.name ++ f.value
    → middle ≡ length old + length f.name → end ≡ length old + length f.name + length f.value
    → never ≡ is_never_indexed first
    → (let s : Span = record { middle = middle; end = end; never_indexed = never } in
    IsWithin (length new) (length old) s × (field_at new (length old) s ≡ read_of first f))
span_of old new middle end first f never text m n bit =
    let long = length_with old new f text in
    let name : slice_range new (length old) middle ≡ f.name = rw (m, text) (name_cut old f.name f.value) in
    let value : slice_range new middle end ≡ f.value = rw (m, text) (value_cut old f.name f.value end n) in (
      record {
        name = omega (arith, m);
        value = omega (arith, n, m);
        within = omega (arith, n, long);
      },
      rw (name, value, bit) refl,
    )

-- ---- sizes

pub sum_is : (all before name value first second third : ℕ) (f : Field) → name ≡ length f.name → value ≡ length f.value
    → before ≡ saturated_size all → first ≡ min (before + name) (2 ^ 64 - 1)
    → second ≡ min (first + value) (2 ^ 64 - 1) → third ≡ min (second + 32) (2 ^ 64 - 1)
    → third ≡ saturated_size (all + field_size f)
sum_is all before name value first second third f n v h p q r = rw (r, q, p, h, n, v) (omega arith)

-- a sum that is within the limit, and not held at the greatest number, leaves room for the field
pub room_is : (limit before name value first second third most : ℕ) → first ≡ min (before + name) (2 ^ 64 - 1)
    → second ≡ min (first + value) (2 ^ 64 - 1) → third ≡ min (second + 32) (2 ^ 64 - 1) → third ≤ limit
    → third < 2 ^ 64 - 1 → most ≡ limit - before - 32
    → (name + value ≤ most) × (third ≡ before + name + value + 32)
room_is limit before name value first second third most p q r le small m =
    (omega (arith, p, q, r, le, small, m), omega (arith, p, q, r, small))
