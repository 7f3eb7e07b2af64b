-- Reading the lines of a section from the left, behind those that were read.
use Rattle.std.proofs.Common.{◌≡◌, ℕ, zero, suc, ◌+◌, ◌-◌, ◌<◌, ◌≤◌, List, [], ◌∷◌, ◌++◌, length}
use Rattle.std.proofs.Common.{Result, Ok, Err, refl, sym, ap, subst, ◌∙◌, append_assoc, append-nil, length-append}
use Rattle.std.proofs.Common.{arith, inl, inr}
use Rattle.qpack_spec.specs.Bytes.{Begins, ◌>>=◌}
use Rattle.qpack_spec.specs.Field.{Field}
use Rattle.qpack_spec.specs.Form.{FormFault, form_at}
use Rattle.qpack_spec.specs.Line.{Line, line_form}
use Rattle.qpack_spec.specs.Reading.{Fault, line_field}
use Rattle.qpack_spec.specs.BlockReading.{or_bad_form, fields_at}
use Rattle.qpack_spec.specs.Window.{Window}
use Rattle.qpack_base.specs.Cursor.{CursorView}
use Rattle.qpack_base.specs.declared.field.HeaderField.{HeaderField}
use Rattle.qpack_wire.specs.Alone.{or_unreadable}
use Rattle.qpack_wire.specs.BlockLines.{line_at}
use Rattle.qpack_spec.proofs.Results.{bind_ok, ok_is, ok_pair}
use Rattle.qpack_spec.proofs.FormLaws.{TakesSpelling, form_takes}
use Rattle.qpack_codec.specs.declared.error.DecoderError.{DecoderError}
use Rattle.qpack_codec.specs.declared.error.DecoderError.TheVariants.{Memory}
use Rattle.qpack_wire.specs.Memory.{HoldsLine}
use Rattle.qpack_wire.proofs.Asking.{HasBegun}
use Rattle.qpack_codec.specs.Sections.{FailsWith, GivesLineField, ReadsField, line_field_at}

-- a fault of a part is the whole's
fails_on : {A B : Type 0} (e : DecoderError) (read : Result A Fault) (whole : Result B Fault) → FailsWith e read
    → ((x : Fault) → read ≡ Err x → whole ≡ Err x) → FailsWith e whole
fails_on Memory read whole h on = tt
fails_on e (Ok x) whole h on = absurd h
fails_on {A} {B} e (Err x) whole h on = subst (λ (r : Result B Fault). FailsWith e r) (sym (on x refl)) h

abbrev pub with_front : List Field → Result (List Field) Fault → Result (List Field) Fault
with_front front read = read >>= λ fs. Ok (front ++ fs)

-- fields that were read
abbrev pub good : List Field → Result (List Field) Fault
good fs = Ok fs

-- a line whose field was read stands at the front
record TakesLine (bytes rest : List ℕ) : Type 0 where
  pub line : Line
  pub takes : TakesSpelling Line line_form bytes line rest

field_takes : (w : Window) (base : ℕ) (bytes : List ℕ) (f : Field) (rest : List ℕ) → line_field_at w base bytes
    ≡ Ok (f, rest)
    → TakesLine bytes rest
field_takes w base bytes f rest e =
    let r = bind_ok (or_bad_form (form_at line_form bytes)) (λ r. line_field w base r.0 >>= λ g. Ok (g, r.1))
    (f, rest) e in
    let g = bind_ok (line_field w base r.0.0) (λ g. Ok (g, r.0.1)) (f, rest) r.2 in
    let p = ok_pair g.0 f r.0.1 rest g.2 in
    subst (TakesLine bytes) p.1
    (record {
      line = r.0.0;
      takes = form_takes line_form bytes r.0.0 r.0.1 (bytes_ok (form_at line_form bytes) r.0 r.1);
    })
  where
    bytes_ok : (read : Result (Line × List ℕ) FormFault) (r : Line × List ℕ) → or_bad_form read ≡ Ok r → read ≡ Ok r
    bytes_ok (Ok x) r e = let s = ok_is x r e in ap (λ (y : Line × List ℕ). Ok y) s
    bytes_ok (Err x) r e = absurd cc

field_line : (w : Window) (base : ℕ) (bytes : List ℕ) (f : Field) (rest : List ℕ) → line_field_at w base bytes
    ≡ Ok (f, rest)
    → Begins HoldsLine bytes
field_line w base bytes f rest e =
    let t = field_takes w base bytes f rest e in
    record { encoding = t.takes.encoding; rest = rest; parts = t.takes.parts; holds = (t.line, t.takes.spells) }

-- a line takes a byte at least
field_shortens : (w : Window) (base : ℕ) (bytes : List ℕ) (f : Field) (rest : List ℕ) → line_field_at w base bytes
    ≡ Ok (f, rest)
    → length rest < length bytes
field_shortens w base bytes f rest e =
    let t = (field_takes w base bytes f rest e).takes in
    let parts : length bytes ≡ length t.encoding + length rest = ap length t.parts ∙ length-append t.encoding rest in
    omega (arith, parts, ap length t.spells.begins)

-- a line was read, so that the first was
pub line_begun : (w : Window) (base : ℕ) (all rest : List ℕ) (f : Field) (more : List ℕ) → HasBegun all rest
    → line_field_at w base rest ≡ Ok (f, more)
    → Begins HoldsLine all
line_begun w base all rest f more (inl e) read = subst (Begins HoldsLine) e (field_line w base rest f more read)
line_begun w base all rest f more (inr h) read = h

pub none_of : (bytes : List ℕ) → length bytes ≤ 0 → bytes ≡ []
none_of [] h = refl
none_of (b ∷ bytes) h = absurd (omega (arith, h))

-- ---- one turn of the loop: what was read stands in front, at most k lines are left

pub fields_end : (k : ℕ) (w : Window) (base : ℕ) (rest : List ℕ) (front : List Field)
    (whole : Result (List Field) Fault)
    → with_front front (fields_at k w base rest) ≡ whole → length rest ≤ 0 → whole ≡ Ok front
unfolding fields_at
fields_end k w base [] front whole is none = sym is ∙ ap good (append-nil front)
fields_end k w base (b ∷ rest) front whole is none = absurd (omega (arith, none))

-- the lines behind a field
abbrev pub behind : ℕ → Window → ℕ → Field × List ℕ → Result (List Field) Fault
behind k w base r = fields_at k w base r.1 >>= λ fs. Ok (r.0 ∷ fs)

-- with lines left, the one at the front decides
turn : (k : ℕ) (w : Window) (base : ℕ) (bytes : List ℕ) → 0 < k → 0 < length bytes
    → fields_at k w base bytes ≡ (line_field_at w base bytes >>= behind (k - 1) w base)
unfolding fields_at
turn zero w base bytes h more = absurd (omega (arith, h))
turn (suc k) w base [] h more = absurd (omega (arith, more))
turn (suc k) w base (b ∷ cs) h more = let e : suc k - 1 ≡ k = omega arith in rw e (go (form_at line_form (b ∷ cs)))
  where
    meant : (r : Result Field Fault) (rest : List ℕ)
        → (r >>= λ f. fields_at k w base rest >>= λ fs. Ok (f ∷ fs)) ≡ ((r >>= λ f. Ok (f, rest)) >>= behind k w base)
    meant (Ok f) rest = refl
    meant (Err e) rest = refl

    go : (r : Result (Line × List ℕ) FormFault)
        → (or_bad_form r >>= λ r. line_field w base r.0 >>= λ f. fields_at k w base r.1 >>= λ fs. Ok (f ∷ fs))
        ≡ ((or_bad_form r >>= λ r. line_field w base r.0 >>= λ f. Ok (f, r.1)) >>= behind k w base)
    go (Ok r) = meant (line_field w base r.0) r.1
    go (Err e) = refl

front_more : (front : List Field) (f : Field) (read : Result (List Field) Fault)
    → with_front front (read >>= λ fs. Ok (f ∷ fs)) ≡ with_front (front ++ f ∷ []) read
front_more front f (Ok fs) = ap good (sym (append_assoc front (f ∷ []) fs))
front_more front f (Err e) = refl

-- what the whole is, by the line at the front
by_line : (k : ℕ) (w : Window) (base : ℕ) (rest : List ℕ) (front : List Field) (whole : Result (List Field) Fault)
    → length rest ≤ k → with_front front (fields_at k w base rest) ≡ whole → 0 < length rest
    → with_front front (line_field_at w base rest >>= behind (k - 1) w base) ≡ whole
by_line k w base rest front whole fits is some =
    ap (with_front front) (sym (turn k w base rest (omega (arith, fits, some)) some)) ∙ is

-- ---- the two ways of a turn

pub turn_bad : (k : ℕ) (w : Window) (base : ℕ) (rest : List ℕ) (front : List Field) (whole : Result (List Field) Fault)
    (e : DecoderError)
    → length rest ≤ k → with_front front (fields_at k w base rest) ≡ whole → 0 < length rest
    → FailsWith e (line_field_at w base rest) → FailsWith e whole
turn_bad k w base rest front whole e fits is some bad =
    fails_on e (line_field_at w base rest) whole bad
    (λ x r. sym (by_line k w base rest front whole fits is some)
    ∙ ap (λ q. with_front front (q >>= behind (k - 1) w base)) r)

-- what stands after a turn
pub record Goes (w : Window) (base : ℕ) (rest : List ℕ) (front : List Field) (whole : Result (List Field) Fault)
    (f : Field) (more : List ℕ) : Type 0 where
  pub next : (k : ℕ) × (length more ≤ k) × (with_front (front ++ f ∷ []) (fields_at k w base more) ≡ whole)
  pub shorter : length more < length rest

pub turn_good : (k : ℕ) (w : Window) (base : ℕ) (rest : List ℕ) (front : List Field) (whole : Result (List Field) Fault)
    (f : Field) (more : List ℕ)
    → length rest ≤ k → with_front front (fields_at k w base rest) ≡ whole → 0 < length rest
    → line_field_at w base rest ≡ Ok (f, more) → Goes w base rest front whole f more
turn_good k w base rest front whole f more fits is some read =
    let short = field_shortens w base rest f more read in
    record {
      next = (
        k - 1,
        omega (arith, short, fits),
        sym (front_more front f (fields_at (k - 1) w base more))
            ∙ sym (ap (λ q. with_front front (q >>= behind (k - 1) w base)) read)
            ∙ by_line k w base rest front whole fits is some,
      );
      shorter = short;
    }

-- ---- a line and its field

form_ok : (read : Result (Line × List ℕ) FormFault) (r : Line × List ℕ) → or_unreadable read ≡ Ok r → read ≡ Ok r
form_ok (Ok x) r e = let s = ok_is x r e in ap (λ (y : Line × List ℕ). Ok y) s
form_ok (Err x) r e = absurd cc

pub line_then_field : (w : Window) (base : ℕ) (old new : CursorView) (l : Line) (r : Result HeaderField DecoderError)
    → line_at old.rest ≡ Ok (l, new.rest) → new.total ≡ old.total → GivesLineField r (line_field w base l)
    → ReadsField old new r (line_field_at w base old.rest)
line_then_field w base old new l r at same gives = by_answer r gives
  where
    read : line_field_at w base old.rest ≡ (line_field w base l >>= λ f. Ok (f, new.rest))
    read = ap (λ (q : Result (Line × List ℕ) FormFault). or_bad_form q >>= λ r. line_field w base r.0 >>= λ f. Ok
        (f, r.1)) (form_ok (form_at line_form old.rest) (l, new.rest) at)

    by_answer : (r : Result HeaderField DecoderError) → GivesLineField r (line_field w base l)
        → ReadsField old new r (line_field_at w base old.rest)
    by_answer (Ok f) gives = (
      read ∙ ap (λ (q : Result Field Fault). q >>= λ f. Ok (f, new.rest)) gives,
      same,
    )
    by_answer (Err e) gives = fails_on e (line_field w base l) (line_field_at w base old.rest) gives
        (λ x is. read ∙ ap (λ (q : Result Field Fault). q >>= λ f. Ok (f, new.rest)) is)
