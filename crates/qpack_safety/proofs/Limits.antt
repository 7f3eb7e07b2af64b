-- A strict decoder with a smaller limit on the sizes of fields answers the same, or that a section is over its limit.
use Rattle.std.proofs.Common.{ℕ, zero, suc, ◌+◌, ◌-◌, ◌≡◌, Bool, true, false, cond, List, [], ◌∷◌, length, Result, Ok, Err}
use Rattle.std.proofs.Common.{refl, ap, inl, inr, ◌⊎◌}
use Rattle.std.specs.Prelude.{nat_lt, nat_eq, ◌&&◌}
use Rattle.qpack_spec.specs.Bytes.{◌>>=◌}
use Rattle.qpack_spec.specs.BlockReading.{or_bad_form}
use Rattle.qpack_spec.specs.Field.{Field, FieldLine, field_size}
use Rattle.qpack_spec.specs.Form.{FormFault, form_at}
use Rattle.qpack_spec.specs.LengthLaws.{longest_section}
use Rattle.qpack_spec.specs.Line.{line_form}
use Rattle.qpack_spec.specs.Prefix.{Prefix, PrefixFault, read_strict_prefix, prefix_at}
use Rattle.qpack_spec.specs.Stateless.{saturated_size}
use Rattle.qpack_spec.specs.StrictReading.{LineFault, TooLarge, SectionFault, TooLong, InLine, CountAtZero, StrictReading}
use Rattle.qpack_spec.specs.StrictReading.{Read, Blocked, Refused, LinesUnder, or_meaningless, or_in_line, within_size}
use Rattle.qpack_spec.specs.StrictReading.{strict_field, strict_line_at, is_never_indexed, strict_lines_at, lines_behind}
use Rattle.qpack_spec.specs.StrictReading.{strict_behind, strict_section_behind, strict_reading}
use Rattle.qpack_spec.specs.Window.{Window, window_insert_count, maximum_capacity}
use Rattle.qpack_spec.proofs.Results.{bind_ok, ok_is}
use Rattle.qpack_safety.specs.HandedSections.{IsOverLimit}

-- ---- a line

-- the same lines under another limit
abbrev pub limited : ℕ → LinesUnder → LinesUnder
limited l u = record u { limit = l }

-- the same line, or it is one too large
LineLimited : Result (FieldLine × List ℕ) LineFault → FieldLine × List ℕ → Type 0
LineLimited r x = (r ≡ Ok x) ⊎ ((all : ℕ) × (r ≡ Err (TooLarge all)))

size_limited : (l big sum : ℕ) (f g : Field) → within_size big sum f ≡ Ok g
    → (within_size l sum f ≡ Ok g) ⊎ ((all : ℕ) × (within_size l sum f ≡ Err (TooLarge all)))
unfolding within_size
size_limited l big sum f g h =
    both (nat_lt big (saturated_size (sum + field_size f))) (nat_lt l (saturated_size (sum + field_size f))) h
  where
    both : (a b : Bool) → cond a (Err (TooLarge (saturated_size (sum + field_size f)))) (Ok f) ≡ Ok g
        → (cond b (Err (TooLarge (saturated_size (sum + field_size f)))) (Ok f) ≡ Ok g)
        ⊎ ((all : ℕ) × (cond b (Err (TooLarge (saturated_size (sum + field_size f)))) (Ok f) ≡ Err (TooLarge all)))
    both true b h = absurd cc
    both false true h = inr (saturated_size (sum + field_size f), refl)
    both false false h = inl h

line_limited : (l : ℕ) (u : LinesUnder) (sum first : ℕ) (more : List ℕ) (x : FieldLine × List ℕ)
    → strict_line_at u sum first more ≡ Ok x → LineLimited (strict_line_at (limited l u) sum first more) x
unfolding strict_line_at strict_field LineLimited
line_limited l u sum first more x h =
    let one = bind_ok (or_meaningless (or_bad_form (form_at line_form (first ∷ more)))) _ x h in
    let two = bind_ok (strict_field u one.0.0) _ x one.2 in
    let three = bind_ok (within_size u.limit sum two.0) _ x two.2 in
    rw (one.1, two.1) (pick two.0 one.0.1 three.0 three.2 (size_limited l u.limit sum two.0 three.0 three.1))
  where
    pick : (f : Field) (rest : List ℕ) (g : Field) → (let r : Result (FieldLine × List ℕ) LineFault =
        Ok (record { field = g; never_indexed = is_never_indexed first }, rest) in r) ≡ Ok x
        → (within_size l sum f ≡ Ok g) ⊎ ((all : ℕ) × (within_size l sum f ≡ Err (TooLarge all)))
        → LineLimited (within_size l sum f
        >>= λ g. Ok (record { field = g; never_indexed = is_never_indexed first }, rest)) x
    pick f rest g is (inl same) = inl (rw same is)
    pick f rest g is (inr large) = inr (large.0, rw large.1 refl)

-- ---- lines

LinesLimited : Result (List FieldLine) SectionFault → List FieldLine → Type 0
LinesLimited r fs = (r ≡ Ok fs) ⊎ ((n o all : ℕ) × (r ≡ Err (InLine n o (TooLarge all))))

lines_limited : (l steps : ℕ) (u : LinesUnder) (number sum : ℕ) (bytes : List ℕ) (fs : List FieldLine)
    → strict_lines_at steps u number sum bytes ≡ Ok fs
    → LinesLimited (strict_lines_at steps (limited l u) number sum bytes) fs
unfolding strict_lines_at LinesLimited LineLimited
lines_limited l steps u number sum [] fs h = inl h
lines_limited l zero u number sum (b ∷ bytes) fs h = inl h
lines_limited l (suc steps) u number sum (b ∷ bytes) fs h =
    let offset = u.section - length (b ∷ bytes) in
    let one = bind_ok (or_in_line (suc number) offset (strict_line_at u sum b bytes)) _ fs h in
    let line = in_line (suc number) offset (strict_line_at u sum b bytes) one.0 one.1 in
    let two = bind_ok (strict_lines_at steps u (suc number) (sum + field_size one.0.0.field) one.0.1) _ fs one.2 in
    pick one.0 two.0 two.2 (line_limited l u sum b bytes one.0 line)
    (lines_limited l steps u (suc number) (sum + field_size one.0.0.field) one.0.1 two.0 two.1)
  where
    in_line : (n o : ℕ) (r : Result (FieldLine × List ℕ) LineFault) (x : FieldLine × List ℕ) → or_in_line n o r ≡ Ok x
        → r ≡ Ok x
    in_line n o (Ok y) x e = ap (λ (z : FieldLine × List ℕ). let q : Result (FieldLine × List ℕ) LineFault = Ok z in q)
        (ok_is y x e)
    in_line n o (Err y) x e = absurd cc

    pick : (x : FieldLine × List ℕ) (gs : List FieldLine)
        → (let r : Result (List FieldLine) SectionFault = Ok (x.0 ∷ gs) in r) ≡ Ok fs
        → LineLimited (strict_line_at (limited l u) sum b bytes) x
        → LinesLimited (strict_lines_at steps (limited l u) (suc number) (sum + field_size x.0.field) x.1) gs
        → LinesLimited (or_in_line (suc number) (u.section - length (b ∷ bytes))
        (strict_line_at (limited l u) sum b bytes) >>= λ r.
        strict_lines_at steps (limited l u) (suc number) (sum + field_size r.0.field) r.1 >>= λ fs. Ok (r.0 ∷ fs)) fs
    pick x gs is (inr large) more = inr (suc number, u.section - length (b ∷ bytes), large.0, rw large.1 refl)
    pick x gs is (inl same) (inl rest) = inl (rw (same, rest) is)
    pick x gs is (inl same) (inr large) = inr (large.0, large.1, large.2, rw (same, large.3) refl)

-- ---- a section

-- the same answer, or the section is over the limit
abbrev pub Limited : StrictReading → StrictReading → Type 0
Limited r a = (r ≡ a) ⊎ IsOverLimit r

-- it is not refused
abbrev pub IsAnswer : StrictReading → Type 0
IsAnswer (Refused fault) = ⊥
IsAnswer a = Unit {0}

answer_of : (a : StrictReading) (fault : SectionFault) → IsAnswer a → Refused fault ≡ a → ⊥
answer_of (Read fs required) fault is e = absurd cc
answer_of (Blocked required) fault is e = absurd cc
answer_of (Refused f) fault is e = is

lines_of : (required : ℕ) (a : StrictReading) (r s : Result (List FieldLine) SectionFault) → IsAnswer a
    → lines_behind required r ≡ a → ((fs : List FieldLine) → r ≡ Ok fs → LinesLimited s fs)
    → Limited (lines_behind required s) a
unfolding LinesLimited
lines_of required a (Err e) s is h limited = absurd (answer_of a e is h)
lines_of required a (Ok fs) s is h limited = pick (limited fs refl)
  where
    pick : LinesLimited s fs → Limited (lines_behind required s) a
    pick (inl same) = inl (rw same h)
    pick (inr large) = inr (rw large.3 tt)

behind_limited : (w : Window) (l big section : ℕ) (rest : List ℕ) (r : Result (ℕ × ℕ) PrefixFault) (a : StrictReading)
    → IsAnswer a → strict_behind w big section rest r ≡ a → Limited (strict_behind w l section rest r) a
behind_limited w l big section rest (Err e) a is h = inl h
behind_limited w l big section rest (Ok p) a is h = both (nat_lt (window_insert_count w) p.0) h
  where
    under : ℕ → LinesUnder
    under limit = record { window = w; required = p.0; base = p.1; limit = limit; section = section }

    both : (b : Bool)
        → cond b (Blocked p.0) (lines_behind p.0 (strict_lines_at (length rest) (under big) 0 0 rest)) ≡ a
        → Limited (cond b (Blocked p.0) (lines_behind p.0 (strict_lines_at (length rest) (under l) 0 0 rest))) a
    both true e = inl e
    both false e =
        lines_of p.0 a (strict_lines_at (length rest) (under big) 0 0 rest) _ is e
        (λ fs ok. lines_limited l (length rest) (under big) 0 0 rest fs ok)

section_limited : (w : Window) (l big section : ℕ) (r : Result (Prefix × List ℕ) FormFault) (a : StrictReading)
    → IsAnswer a → strict_section_behind w big section r ≡ a → Limited (strict_section_behind w l section r) a
section_limited w l big section (Err e) a is h = inl h
section_limited w l big section (Ok p) a is h =
    both (nat_eq (maximum_capacity w.agreed_max w.capacity) 0 && nat_lt 0 p.0.count) h
  where
    prefix : Result (ℕ × ℕ) PrefixFault
    prefix = read_strict_prefix (window_insert_count w) (maximum_capacity w.agreed_max w.capacity) p.0

    both : (b : Bool) → cond b (Refused CountAtZero) (strict_behind w big section p.1 prefix) ≡ a
        → Limited (cond b (Refused CountAtZero) (strict_behind w l section p.1 prefix)) a
    both true e = inl e
    both false e = behind_limited w l big section p.1 prefix a is e

pub reading_limited : (w : Window) (l big : ℕ) (bytes : List ℕ) (a : StrictReading) → IsAnswer a
    → strict_reading w big bytes ≡ a → Limited (strict_reading w l bytes) a
unfolding strict_reading
reading_limited w l big bytes a is h =
    both (nat_lt (longest_section l) (length bytes)) (nat_lt (longest_section big) (length bytes)) h
  where
    both : (b c : Bool)
        → cond c (Refused TooLong) (strict_section_behind w big (length bytes) (prefix_at bytes)) ≡ a
        → Limited (cond b (Refused TooLong) (strict_section_behind w l (length bytes) (prefix_at bytes))) a
    both b true e = absurd (answer_of a TooLong is e)
    both true false e = inr tt
    both false false e = section_limited w l big (length bytes) (prefix_at bytes) a is e
