-- A strict decoder answers what a section means, or refuses it, and what it answers is within its limit.
use Rattle.std.proofs.Common.{ℕ, zero, suc, ◌+◌, ◌-◌, ◌<◌, ◌≤◌, ◌≡◌, Bool, true, false, cond, List, [], ◌∷◌, length}
use Rattle.std.proofs.Common.{Result, Ok, Err, refl, sym, subst, inl, inr, ◌⊎◌, arith}
use Rattle.std.specs.Prelude.{◌&&◌, nat_eq, nat_le, nat_lt}
use Rattle.std.proofs.lemmas.Bool.{lt-ltb, le-ltb, cases_lt}
use Rattle.qpack_spec.specs.Bytes.{◌>>=◌}
use Rattle.qpack_spec.specs.Field.{Field, field_size, total_size, FieldLine, fields_of_lines}
use Rattle.qpack_spec.specs.Form.{FormFault, form_at}
use Rattle.qpack_spec.specs.Line.{Line, line_form}
use Rattle.qpack_spec.specs.Prefix.{Prefix, PrefixFault, read_prefix, read_strict_prefix, prefix_at}
use Rattle.qpack_spec.specs.Window.{Window, maximum_capacity, window_insert_count}
use Rattle.qpack_spec.specs.Reading.{Fault, Reading, Missing, line_field, references_of_line, greatest_of}
use Rattle.qpack_spec.specs.Reading.{reading_of_fields}
use Rattle.qpack_spec.specs.BlockReading.{or_bad_form, fields_at, fields_in_bytes, bytes_behind, section_behind}
use Rattle.qpack_spec.specs.BlockReading.{reading_of_bytes}
use Rattle.qpack_spec.specs.Stateless.{saturated_size}
use Rattle.qpack_spec.specs.LengthLaws.{longest_section}
use Rattle.qpack_spec.specs.StrictReading.{is_never_indexed, LineFault, Meaningless}
use Rattle.qpack_spec.specs.StrictReading.{PastRequired, TooLarge, SectionFault, TooLong, InPrefix, InLine, CountAtZero}
use Rattle.qpack_spec.specs.StrictReading.{StrictReading, Read, Blocked, Refused, LinesUnder, or_meaningless}
use Rattle.qpack_spec.specs.StrictReading.{or_in_line, within_size, strict_field, strict_line_at, strict_lines_at}
use Rattle.qpack_spec.specs.StrictReading.{lines_behind, strict_behind, strict_section_behind, strict_reading}
use Rattle.qpack_spec.specs.StrictReading.{SaysReading, IsBelowZero, RefusesBelowZero, StrictReadingsAreReadings}
use Rattle.qpack_spec.specs.StrictReading.{StrictReadingsAreWithin}
use Rattle.qpack_spec.proofs.Prefixes.{strict_agrees, below_or_not}
use Rattle.qpack_spec.proofs.Sizes.{total_first}

-- ---- one line

-- the field of a line that was read from the bytes, and the bytes behind it
abbrev line_meaning : Window → ℕ → Result (Line × List ℕ) FormFault → Result (Field × List ℕ) Fault
line_meaning w base r = or_bad_form r >>= λ l. line_field w base l.0 >>= λ f. Ok (f, l.1)

-- what a line means where a strict decoder reads it so: the same field, with which the sizes are within the limit, or
-- the same fault
abbrev SaysLine : ℕ → ℕ → Result (Field × List ℕ) Fault → Result (FieldLine × List ℕ) LineFault → Type 0
SaysLine limit sum m (Ok x) = (m ≡ Ok (x.0.field, x.1)) × (saturated_size (sum + field_size x.0.field) ≤ limit)
SaysLine limit sum m (Err (Meaningless fault)) = m ≡ Err fault
SaysLine limit sum m (Err fault) = Unit {0}

-- a field and the bytes behind it, as a strict decoder answers them
abbrev line_read : ℕ → List ℕ → Field → Result (FieldLine × List ℕ) LineFault
line_read first rest f = Ok (record { field = f; never_indexed = is_never_indexed first }, rest)

size_says : (limit sum first : ℕ) (rest : List ℕ) (f : Field)
    → SaysLine limit sum (Ok (f, rest)) (within_size limit sum f >>= λ g. line_read first rest g)
unfolding within_size
size_says limit sum first rest f = pick (cases_lt limit (saturated_size (sum + field_size f)))
  where
    pick : (limit < saturated_size (sum + field_size f)) ⊎ (saturated_size (sum + field_size f) ≤ limit)
        → SaysLine limit sum (Ok (f, rest)) (cond (nat_lt limit (saturated_size (sum + field_size f)))
        (Err (TooLarge (saturated_size (sum + field_size f)))) (Ok f) >>= λ g. line_read first rest g)
    pick (inl long) = rw (lt-ltb _ _ long) tt
    pick (inr fits) = rw (le-ltb _ _ fits) (refl, fits)

meaning_says : (limit sum first : ℕ) (rest : List ℕ) (r : Result Field Fault)
    → SaysLine limit sum (r >>= λ f. Ok (f, rest))
    (or_meaningless r >>= λ f. within_size limit sum f >>= λ g. line_read first rest g)
meaning_says limit sum first rest (Ok f) = size_says limit sum first rest f
meaning_says limit sum first rest (Err e) = refl

field_says : (u : LinesUnder) (sum first : ℕ) (l : Line) (rest : List ℕ)
    → SaysLine u.limit sum (line_field u.window u.base l >>= λ f. Ok (f, rest))
    (strict_field u l >>= λ f. within_size u.limit sum f >>= λ g. line_read first rest g)
unfolding strict_field
field_says u sum first l rest = pick (nat_le (greatest_of (references_of_line u.base l)) u.required)
  where
    pick : (b : Bool) → SaysLine u.limit sum (line_field u.window u.base l >>= λ f. Ok (f, rest))
        (cond b (or_meaningless (line_field u.window u.base l))
        (Err (PastRequired (greatest_of (references_of_line u.base l))))
        >>= λ f. within_size u.limit sum f >>= λ g. line_read first rest g)
    pick true = meaning_says u.limit sum first rest (line_field u.window u.base l)
    pick false = tt

form_says : (u : LinesUnder) (sum first : ℕ) (r : Result (Line × List ℕ) FormFault)
    → SaysLine u.limit sum (line_meaning u.window u.base r)
    (or_meaningless (or_bad_form r) >>= λ l. strict_field u l.0 >>= λ f. within_size u.limit sum f
    >>= λ g. line_read first l.1 g)
form_says u sum first (Ok l) = field_says u sum first l.0 l.1
form_says u sum first (Err e) = refl

line_says : (u : LinesUnder) (sum first : ℕ) (more : List ℕ)
    → SaysLine u.limit sum (line_meaning u.window u.base (form_at line_form (first ∷ more)))
    (strict_line_at u sum first more)
unfolding strict_line_at
line_says u sum first more = form_says u sum first (form_at line_form (first ∷ more))

-- ---- the lines in turn

-- what lines mean where a strict decoder reads them so: the same fields, within the limit, or the same fault
abbrev SaysLines : ℕ → ℕ → Result (List Field) Fault → Result (List FieldLine) SectionFault → Type 0
SaysLines limit sum m (Ok fs) = (m ≡ Ok (fields_of_lines fs)) × (saturated_size (sum + total_size (fields_of_lines
    fs)) ≤ limit)
SaysLines limit sum m (Err (InPrefix fault)) = m ≡ Err fault
SaysLines limit sum m (Err (InLine number offset (Meaningless fault))) = m ≡ Err fault
SaysLines limit sum m (Err fault) = Unit {0}

-- reading lines is reading one, and then those behind it
meaning_first : (steps : ℕ) (w : Window) (base b : ℕ) (bytes : List ℕ)
    → fields_at (suc steps) w base (b ∷ bytes)
    ≡ (line_meaning w base (form_at line_form (b ∷ bytes)) >>= λ p. fields_at steps w base p.1
    >>= λ fs. Ok (p.0 ∷ fs))
unfolding fields_at
meaning_first steps w base b bytes = go (form_at line_form (b ∷ bytes))
  where
    line : (rest : List ℕ) (r : Result Field Fault)
        → (r >>= λ f. fields_at steps w base rest >>= λ fs. Ok (f ∷ fs))
        ≡ ((let p : Result (Field × List ℕ) Fault = (r >>= λ f. Ok (f, rest)) in p) >>= λ p. fields_at steps w base p.1
        >>= λ fs. Ok (p.0 ∷ fs))
    line rest (Ok f) = refl
    line rest (Err e) = refl

    go : (r : Result (Line × List ℕ) FormFault)
        → (or_bad_form r >>= λ l. line_field w base l.0 >>= λ f. fields_at steps w base l.1 >>= λ fs. Ok (f ∷ fs))
        ≡ (line_meaning w base r >>= λ p. fields_at steps w base p.1 >>= λ fs. Ok (p.0 ∷ fs))
    go (Ok l) = line l.1 (line_field w base l.0)
    go (Err e) = refl

-- a field in front of those behind it
before_says : (limit sum : ℕ) (x : FieldLine) (m : Result (List Field) Fault)
    (s : Result (List FieldLine) SectionFault)
    → SaysLines limit (sum + field_size x.field) m s
    → SaysLines limit sum (m >>= λ fs. Ok (x.field ∷ fs)) (s >>= λ fs. Ok (x ∷ fs))
before_says limit sum x m (Ok fs) h =
    (rw h.0 refl, omega (arith, h.1, total_first x.field (fields_of_lines fs)))
before_says limit sum x m (Err (InPrefix fault)) h = rw h refl
before_says limit sum x m (Err (InLine number offset (Meaningless fault))) h = rw h refl
before_says limit sum x m (Err fault) h = tt

-- a line in front of those behind it
first_says : (limit sum number offset : ℕ) (m : Result (Field × List ℕ) Fault)
    (r : Result (FieldLine × List ℕ) LineFault) (meaning : List ℕ → Result (List Field) Fault)
    (strict : ℕ → List ℕ → Result (List FieldLine) SectionFault) → SaysLine limit sum m r
    → ((n : ℕ) (rest : List ℕ) → saturated_size n ≤ limit → SaysLines limit n (meaning rest) (strict n rest))
    → SaysLines limit sum (m >>= λ p. meaning p.1 >>= λ fs. Ok (p.0 ∷ fs))
    (or_in_line number offset r >>= λ x. strict (sum + field_size x.0.field) x.1 >>= λ fs. Ok (x.0 ∷ fs))
first_says limit sum number offset m (Ok x) meaning strict h behind =
    rw h.0
    (before_says limit sum x.0 (meaning x.1) (strict (sum + field_size x.0.field) x.1)
    (behind (sum + field_size x.0.field) x.1 h.1))
first_says limit sum number offset m (Err (Meaningless fault)) meaning strict h behind = rw h refl
first_says limit sum number offset m (Err fault) meaning strict h behind = tt

-- no line
none_says : (limit sum : ℕ) → saturated_size sum ≤ limit → SaysLines limit sum (Ok []) (Ok [])
none_says limit sum low = (refl, omega (arith, low))

lines_say : (steps : ℕ) (u : LinesUnder) (number sum : ℕ) (bytes : List ℕ) → saturated_size sum ≤ u.limit
    → SaysLines u.limit sum (fields_at steps u.window u.base bytes) (strict_lines_at steps u number sum bytes)
unfolding fields_at strict_lines_at
lines_say zero u number sum [] low = none_says u.limit sum low
lines_say zero u number sum (b ∷ bytes) low = none_says u.limit sum low
lines_say (suc steps) u number sum [] low = none_says u.limit sum low
lines_say (suc steps) u number sum (b ∷ bytes) low =
    subst (λ (m : Result (List Field) Fault). SaysLines u.limit sum m
    (strict_lines_at (suc steps) u number sum (b ∷ bytes))) (sym (meaning_first steps u.window u.base b bytes))
    (first_says u.limit sum (suc number) (u.section - length (b ∷ bytes))
    (line_meaning u.window u.base (form_at line_form (b ∷ bytes))) (strict_line_at u sum b bytes)
    (fields_at steps u.window u.base) (strict_lines_at steps u (suc number)) (line_says u sum b bytes)
    (λ n rest low'. lines_say steps u (suc number) n rest low'))

-- ---- sections

-- what is answered is within the limit
abbrev IsWithin : ℕ → StrictReading → Type 0
IsWithin limit (Read fields required) = saturated_size (total_size (fields_of_lines fields)) ≤ limit
IsWithin limit (Blocked required) = Unit {0}
IsWithin limit (Refused fault) = Unit {0}

-- both at once
abbrev SaysSection : ℕ → Reading → StrictReading → Type 0
SaysSection limit r s = SaysReading r s × IsWithin limit s

lines_answer : (limit required : ℕ) (m : Result (List Field) Fault) (s : Result (List FieldLine) SectionFault)
    → SaysLines limit 0 m s → SaysSection limit (reading_of_fields m (nat_lt 0 required)) (lines_behind required s)
lines_answer limit required m (Ok fs) h = (rw h.0 refl, omega (arith, h.1))
lines_answer limit required m (Err (InPrefix fault)) h = (rw h refl, tt)
lines_answer limit required m (Err (InLine number offset (Meaningless fault))) h = (rw h refl, tt)
lines_answer limit required m (Err fault) h = (tt, tt)

-- what the lines behind a prefix are read under
abbrev lines_under : Window → ℕ → ℕ → ℕ × ℕ → LinesUnder
lines_under w limit section p =
    record { window = w; required = p.0; base = p.1; limit = limit; section = section }

behind_says : (w : Window) (limit section : ℕ) (rest : List ℕ) (r : Result (ℕ × ℕ) PrefixFault)
    → SaysSection limit (bytes_behind w rest r) (strict_behind w limit section rest r)
behind_says w limit section rest (Err e) = (refl, tt)
behind_says w limit section rest (Ok p) = pick (nat_lt (window_insert_count w) p.0)
  where
    pick : (b : Bool) → SaysSection limit
        (cond b (Missing p.0) (reading_of_fields (fields_in_bytes w p.1 rest) (nat_lt 0 p.0)))
        (cond b (Blocked p.0)
        (lines_behind p.0 (strict_lines_at (length rest) (lines_under w limit section p) 0 0 rest)))
    pick true = (refl, tt)
    pick false =
        lines_answer limit p.0 (fields_in_bytes w p.1 rest)
        (strict_lines_at (length rest) (lines_under w limit section p) 0 0 rest)
        (lines_say (length rest) (lines_under w limit section p) 0 0 rest (omega arith))

-- or it is refused for its base alone
abbrev SaysWhole : Window → ℕ → List ℕ → Reading → StrictReading → Type 0
SaysWhole w limit bytes r s = (SaysReading r s ⊎ RefusesBelowZero w bytes s) × IsWithin limit s

section_says : (w : Window) (limit section : ℕ) (bytes : List ℕ) (r : Result (Prefix × List ℕ) FormFault)
    → prefix_at bytes ≡ r
    → SaysWhole w limit bytes (section_behind w r) (strict_section_behind w limit section r)
section_says w limit section bytes (Err e) q = (inl refl, tt)
section_says w limit section bytes (Ok p) q =
    pick (nat_eq (maximum_capacity w.agreed_max w.capacity) 0 && nat_lt 0 p.0.count)
  where
    by_sign : IsBelowZero (window_insert_count w) (maximum_capacity w.agreed_max w.capacity) p.0
        ⊎ (IsBelowZero (window_insert_count w) (maximum_capacity w.agreed_max w.capacity) p.0 → ⊥)
        → SaysWhole w limit bytes (section_behind w (Ok p)) (strict_behind w limit section p.1
        (read_strict_prefix (window_insert_count w) (maximum_capacity w.agreed_max w.capacity) p.0))
    by_sign (inl below) =
        rw ((strict_agrees (window_insert_count w) (maximum_capacity w.agreed_max w.capacity) p.0).1 below).0
        (inr (record { prefix = p.0; rest = p.1; begins = q; below = below; refused = refl }), tt)
    by_sign (inr other) =
        let says = behind_says w limit section p.1
        (read_prefix (window_insert_count w) (maximum_capacity w.agreed_max w.capacity) p.0) in
        rw ((strict_agrees (window_insert_count w) (maximum_capacity w.agreed_max w.capacity) p.0).0 other)
        (inl says.0, says.1)

    pick : (b : Bool) → SaysWhole w limit bytes (section_behind w (Ok p)) (cond b (Refused CountAtZero)
        (strict_behind w limit section p.1
        (read_strict_prefix (window_insert_count w) (maximum_capacity w.agreed_max w.capacity) p.0)))
    pick true = (inl tt, tt)
    pick false =
        by_sign (below_or_not (window_insert_count w) (maximum_capacity w.agreed_max w.capacity) p.0)

strict_says : (w : Window) (limit : ℕ) (bytes : List ℕ)
    → SaysWhole w limit bytes (reading_of_bytes w bytes) (strict_reading w limit bytes)
unfolding reading_of_bytes strict_reading
strict_says w limit bytes = pick (nat_lt (longest_section limit) (length bytes))
  where
    pick : (b : Bool) → SaysWhole w limit bytes (section_behind w (prefix_at bytes)) (cond b (Refused TooLong)
        (strict_section_behind w limit (length bytes) (prefix_at bytes)))
    pick true = (inl tt, tt)
    pick false = section_says w limit (length bytes) bytes (prefix_at bytes) refl

pub strict_are_readings : StrictReadingsAreReadings
strict_are_readings w limit bytes = (strict_says w limit bytes).0

pub strict_are_within : StrictReadingsAreWithin
strict_are_within w limit bytes fields required e =
    subst (IsWithin limit) e (strict_says w limit bytes).1

-- ---- what a reader that goes line by line needs

-- behind the last line no field is read
pub strict_none : (steps : ℕ) (u : LinesUnder) (number sum : ℕ) → strict_lines_at steps u number sum [] ≡ Ok []
unfolding strict_lines_at
strict_none zero u number sum = refl
strict_none (suc steps) u number sum = refl
