-- A line and a prefix of which no byte is missing are read the same with more bytes behind, and end after what waits.
use Rattle.std.proofs.Common.{◌≡◌, ℕ, suc, ◌+◌, ◌-◌, ◌<◌, ◌≤◌, List, [], ◌∷◌, ◌++◌, length, drop, Option, None, Some}
use Rattle.std.proofs.Common.{Result, Ok, Err, refl, sym, ap, ◌∙◌, arith, append_assoc, length-append}
use Rattle.std.proofs.Common.{inl, inr}
use Rattle.std.specs.Prelude.{nat_eq}
use Rattle.std.proofs.lemmas.Bool.{cases_lt}
use Rattle.std.proofs.lemmas.List.{append_cancel_left, drop_at}
use Rattle.qpack_spec.specs.Bytes.{◌>>=◌}
use Rattle.qpack_spec.specs.Field.{Field, FieldLine}
use Rattle.qpack_spec.specs.Form.{FormFault, Form, or_bad_integer, made_at, in_form, form_at}
use Rattle.qpack_spec.specs.Integer.{IntegerFault, Overflow, UnexpectedEnd, integer_at}
use Rattle.qpack_spec.specs.Line.{Line, line_form}
use Rattle.qpack_spec.specs.Prefix.{Prefix, prefix_at}
use Rattle.qpack_spec.specs.BlockReading.{or_bad_form}
use Rattle.qpack_spec.specs.StrictReading.{LineFault, SectionFault, LinesUnder, or_meaningless, strict_field, within_size}
use Rattle.qpack_spec.specs.StrictReading.{is_never_indexed, strict_line_at}
use Rattle.qpack_spec.specs.Window.{Window}
use Rattle.qpack_spec.proofs.FormLaws.{form_takes, form_again}
use Rattle.qpack_spec.proofs.Integers.{integer_takes, integer_again}
use Rattle.qpack_spec.proofs.Results.{ok_is}
use Rattle.qpack_rules.proofs.Waiting.{reads_integer}
use Rattle.qpack_decoding.specs.Missing.{integer_missing, missing_behind_count, form_missing, line_missing, prefix_missing}
use Rattle.qpack_decoding.specs.Pieces.{line_at}
use Rattle.qpack_decoding.specs.SectionPrefixes.{strict_numbers, with_length, prefix_behind, strict_prefix}
use Rattle.qpack_decoding.proofs.MissingBytes.{form_not_cut, form_has_all, made_more, made_fault_more, integer_fault_more}

-- ---- fronts

-- of two cuttings of a list, the one with the shorter end has the longer front
pub front_split : {A : Type 0} (a b c d : List A) → a ++ b ≡ c ++ d → length b ≤ length d → a ≡ c ++ drop (length c) a
front_split a b [] d e h = refl
front_split [] b (x ∷ c) d e h =
    let long : length b ≡ suc (length (c ++ d)) = ap length e in
    absurd (omega (arith, long, h, length-append c d))
front_split (y ∷ a) b (x ∷ c) d e h =
    let first : y ≡ x = cc in
    let rest : a ++ b ≡ c ++ d = cc in
    ap (λ z. z ∷ a) first ∙ ap (λ l. x ∷ l) (front_split a b c d rest h)

-- ---- a line

-- what was read, with more bytes behind
abbrev pub followed : {A E : Type 0} → List ℕ → Result (A × List ℕ) E → Result (A × List ℕ) E
followed more (Ok r) = Ok (r.0, r.1 ++ more)
followed more (Err e) = Err e

form_followed : (b : ℕ) (bytes more : List ℕ) → line_missing (b ∷ bytes) ≡ 0
    → form_at line_form (b ∷ bytes ++ more) ≡ followed more (form_at line_form (b ∷ bytes))
unfolding form_at line_missing
form_followed b bytes more none = go (line_form b) none
  where
    go : (o : Option (Form Line)) → form_missing o (b ∷ bytes) ≡ 0
        → in_form o (b ∷ bytes ++ more) ≡ followed more (in_form o (b ∷ bytes))
    go None h = refl
    go (Some form) h = by (made_at form (b ∷ bytes)) refl
      where
        by : (r : Result (Line × List ℕ) FormFault) → made_at form (b ∷ bytes) ≡ r
            → made_at form (b ∷ bytes ++ more) ≡ followed more r
        by (Ok r) q = made_more form (b ∷ bytes) more r.0 r.1 q
        by (Err e) q = made_fault_more form (b ∷ bytes) more e q (form_not_cut form (b ∷ bytes) e h q)

-- the line of a field that was found, and what is left after it
abbrev pub given : ℕ → List ℕ → Result Field LineFault → Result (FieldLine × List ℕ) LineFault
given b rest r = r >>= λ g. Ok (record { field = g; never_indexed = is_never_indexed b }, rest)

-- a line, after its form
abbrev pub behind_form : LinesUnder → ℕ → ℕ → Line × List ℕ → Result (FieldLine × List ℕ) LineFault
behind_form u sum b r = strict_field u r.0 >>= λ f. given b r.1 (within_size u.limit sum f)

pub line_followed : (u : LinesUnder) (sum : ℕ) (bytes more : List ℕ) → line_missing bytes ≡ 0
    → line_at u sum (bytes ++ more) ≡ followed more (line_at u sum bytes)
unfolding line_at strict_line_at line_missing
line_followed u sum [] more none = absurd (omega (arith, none))
line_followed u sum (b ∷ bytes) more none =
    ap (λ (r : Result (Line × List ℕ) FormFault). or_meaningless (or_bad_form r) >>= behind_form u sum b)
    (form_followed b bytes more none)
    ∙ go (form_at line_form (b ∷ bytes))
  where
    within : (rest : List ℕ) (r : Result Field LineFault) → given b (rest ++ more) r ≡ followed more (given b rest r)
    within rest (Ok g) = refl
    within rest (Err e) = refl

    fielded : (rest : List ℕ) (r : Result Field LineFault)
        → (r >>= λ f. given b (rest ++ more) (within_size u.limit sum f))
        ≡ followed more (r >>= λ f. given b rest (within_size u.limit sum f))
    fielded rest (Ok f) = within rest (within_size u.limit sum f)
    fielded rest (Err e) = refl

    go : (r : Result (Line × List ℕ) FormFault)
        → (or_meaningless (or_bad_form (followed more r)) >>= behind_form u sum b)
        ≡ followed more (or_meaningless (or_bad_form r) >>= behind_form u sum b)
    go (Ok r) = fielded r.1 (strict_field u r.0)
    go (Err e) = refl

-- the form at the front of a line that was read
pub record ReadsForm (bytes left : List ℕ) : Type 0 where
  pub line : Line
  pub is : form_at line_form bytes ≡ Ok (line, left)

pub line_form_is : (u : LinesUnder) (sum : ℕ) (bytes left : List ℕ) (f : FieldLine) → line_at u sum bytes ≡ Ok (f, left)
    → ReadsForm bytes left
unfolding line_at strict_line_at
line_form_is u sum [] left f e = absurd cc
line_form_is u sum (b ∷ bytes) left f e = go (form_at line_form (b ∷ bytes)) refl e
  where
    within : (rest : List ℕ) (r : Result Field LineFault) → given b rest r ≡ Ok (f, left) → rest ≡ left
    within rest (Ok g) q = ap (λ (x : FieldLine × List ℕ). x.1) (ok_is (record { field = g; never_indexed = is_never_indexed b }, rest) (f, left) q)
    within rest (Err x) q = absurd cc

    fielded : (rest : List ℕ) (r : Result Field LineFault)
        → (r >>= λ g. given b rest (within_size u.limit sum g)) ≡ Ok (f, left) → rest ≡ left
    fielded rest (Ok g) q = within rest (within_size u.limit sum g) q
    fielded rest (Err x) q = absurd cc

    go : (r : Result (Line × List ℕ) FormFault) → form_at line_form (b ∷ bytes) ≡ r
        → (or_meaningless (or_bad_form r) >>= behind_form u sum b) ≡ Ok (f, left)
        → ReadsForm (b ∷ bytes) left
    go (Ok r) q h =
        let same : r.1 ≡ left = fielded r.1 (strict_field u r.0) h in
        record {
          line = r.0;
          is = q ∙ ap (λ (x : List ℕ). let y : Result (Line × List ℕ) FormFault = Ok (r.0, x) in y) same;
        }
    go (Err x) q h = absurd cc

line_has_all : (bytes left : List ℕ) (l : Line) → form_at line_form bytes ≡ Ok (l, left) → line_missing bytes ≡ 0
unfolding form_at line_missing
line_has_all [] left l e = absurd cc
line_has_all (b ∷ bytes) left l e = go (line_form b) e
  where
    go : (o : Option (Form Line)) → in_form o (b ∷ bytes) ≡ Ok (l, left) → form_missing o (b ∷ bytes) ≡ 0
    go None q = absurd cc
    go (Some form) q = form_has_all form (b ∷ bytes) (l, left) q

-- a line ends after what waits of it
pub line_takes : (u : LinesUnder) (sum : ℕ) (pending bytes left : List ℕ) (f : FieldLine) → 0 < line_missing pending
    → line_at u sum (pending ++ bytes) ≡ Ok (f, left) → length left < length bytes
line_takes u sum pending bytes left f waits e =
    elim (cases_lt (length left) (length bytes)) [
      | inl lt ↦ lt
      | inr le ↦
          let form = line_form_is u sum (pending ++ bytes) left f e in
          let t = form_takes line_form (pending ++ bytes) form.line left form.is in
          let front = front_split pending bytes t.encoding left t.parts le in
          let again = ap (form_at line_form) front
          ∙ form_again line_form t.encoding (drop (length t.encoding) pending) form.line t.spells in
          absurd (omega (arith, waits, line_has_all pending (drop (length t.encoding) pending) form.line again))
    ]

-- what is left after it is an end of the bytes that come
pub line_suffix : (u : LinesUnder) (sum : ℕ) (pending bytes left : List ℕ) (f : FieldLine)
    → line_at u sum (pending ++ bytes) ≡ Ok (f, left) → length left ≤ length bytes
    → left ≡ drop (length bytes - length left) bytes
line_suffix u sum pending bytes left f e short =
    let form = line_form_is u sum (pending ++ bytes) left f e in
    let t = form_takes line_form (pending ++ bytes) form.line left form.is in
    let x = drop (length pending) t.encoding in
    let front : t.encoding ≡ pending ++ x = front_split t.encoding left pending bytes (sym t.parts) short in
    let same : bytes ≡ x ++ left =
    append_cancel_left pending bytes (x ++ left)
    (t.parts ∙ ap (λ (l : List ℕ). l ++ left) front ∙ append_assoc pending x left) in
    sym (ap (drop (length bytes - length left)) same
    ∙ drop_at x left (length bytes - length left) (omega (arith, ap length same, length-append x left)))

-- ---- a prefix

pub prefix_followed : (w : Window) (bytes more : List ℕ) → prefix_missing bytes ≡ 0
    → strict_prefix w (bytes ++ more) ≡ strict_prefix w bytes
unfolding strict_prefix prefix_at prefix_missing
prefix_followed w bytes more none = go (integer_at 8 bytes) refl none
  where
    go : (r : Result (ℕ × ℕ × List ℕ) IntegerFault) → integer_at 8 bytes ≡ r → missing_behind_count r ≡ 0
        → strict_prefix w (bytes ++ more) ≡ strict_prefix w bytes
    go (Ok c) q h = second (integer_at 7 c.2) refl h
      where
        second : (s : Result (ℕ × ℕ × List ℕ) IntegerFault) → integer_at 7 c.2 ≡ s → integer_missing s ≡ 0
            → strict_prefix w (bytes ++ more) ≡ strict_prefix w bytes
        second (Ok d) p k =
            let one = reads_integer 8 bytes c q in
            let two = reads_integer 7 c.2 d p in
            let taken : length (bytes ++ more) - length (d.2 ++ more) ≡ length bytes - length d.2
            = omega (arith, length-append bytes more, length-append d.2 more) in
            rw (one.again more, two.again more, q, p, taken) refl
        second (Err Overflow) p k =
            rw ((reads_integer 8 bytes c q).again more, integer_fault_more 7 c.2 more p, q, p) refl
        second (Err UnexpectedEnd) p k = absurd cc
    go (Err Overflow) q h = rw (integer_fault_more 8 bytes more q, q) refl
    go (Err UnexpectedEnd) q h = absurd cc

-- where the two integers of a prefix end
record ReadsPrefix (bytes : List ℕ) (len : ℕ) : Type 0 where
  pub count : ℕ × ℕ × List ℕ
  pub delta : ℕ × ℕ × List ℕ
  pub first : integer_at 8 bytes ≡ Ok count
  pub second : integer_at 7 count.2 ≡ Ok delta
  pub taken : len ≡ length bytes - length delta.2

abbrev pub with_delta : ℕ × ℕ × List ℕ → Result (ℕ × ℕ × List ℕ) IntegerFault → Result (Prefix × List ℕ) FormFault
with_delta c s = or_bad_integer s >>= λ d. Ok (record { count = c.1; sign = nat_eq d.0 1; delta = d.1 }, d.2)

prefix_parts : (w : Window) (bytes : List ℕ) (p : ℕ × ℕ × ℕ) → strict_prefix w bytes ≡ Ok p → ReadsPrefix bytes p.2
unfolding strict_prefix prefix_at
prefix_parts w bytes p e = go (integer_at 8 bytes) refl e
  where
    taken_is : (len : ℕ) (r : Result (ℕ × ℕ) SectionFault) → with_length len r ≡ Ok p → p.2 ≡ len
    taken_is len (Ok x) q = ap (λ (y : ℕ × ℕ × ℕ). y.2) (sym (ok_is (x.0, x.1, len) p q))
    taken_is len (Err x) q = absurd cc

    go : (r : Result (ℕ × ℕ × List ℕ) IntegerFault) → integer_at 8 bytes ≡ r
        → prefix_behind w (length bytes) (or_bad_integer r >>= λ c. with_delta c (integer_at 7 c.2)) ≡ Ok p
        → ReadsPrefix bytes p.2
    go (Ok c) q h = second (integer_at 7 c.2) refl h
      where
        second : (s : Result (ℕ × ℕ × List ℕ) IntegerFault) → integer_at 7 c.2 ≡ s
            → prefix_behind w (length bytes) (with_delta c s) ≡ Ok p → ReadsPrefix bytes p.2
        second (Ok d) z k =
            record {
              count = c;
              delta = d;
              first = q;
              second = z;
              taken = taken_is (length bytes - length d.2)
                  (strict_numbers w (record { count = c.1; sign = nat_eq d.0 1; delta = d.1 })) k;
            }
        second (Err f) z k = absurd cc
    go (Err f) q h = absurd cc

-- a prefix ends after what waits of it
pub prefix_takes : (w : Window) (pending bytes : List ℕ) (p : ℕ × ℕ × ℕ) → 0 < prefix_missing pending
    → strict_prefix w (pending ++ bytes) ≡ Ok p → (length pending < p.2) × (p.2 ≤ length pending + length bytes)
unfolding prefix_missing
prefix_takes w pending bytes p waits e =
    let r = prefix_parts w (pending ++ bytes) p e in
    let t = integer_takes 8 (pending ++ bytes) r.count.0 r.count.1 r.count.2 r.first in
    let s = integer_takes 7 r.count.2 r.delta.0 r.delta.1 r.delta.2 r.second in
    let cut : pending ++ bytes ≡ (t.encoding ++ s.encoding) ++ r.delta.2 =
    t.parts ∙ ap (λ (x : List ℕ). t.encoding ++ x) s.parts ∙ sym (append_assoc t.encoding s.encoding r.delta.2) in
    elim (cases_lt (length r.delta.2) (length bytes)) [
      | inl lt ↦ (
        omega (arith, lt, r.taken, length-append pending bytes),
        omega (arith, r.taken, length-append pending bytes),
      )
      | inr le ↦
          let x = drop (length (t.encoding ++ s.encoding)) pending in
          let front : pending ≡ t.encoding ++ (s.encoding ++ x) =
          front_split pending bytes (t.encoding ++ s.encoding) r.delta.2 cut le
          ∙ append_assoc t.encoding s.encoding x in
          let first = ap (integer_at 8) front
          ∙ integer_again 8 t.encoding (s.encoding ++ x) r.count.0 r.count.1 t.spells in
          let second = integer_again 7 s.encoding x r.delta.0 r.delta.1 s.spells in
          let none : prefix_missing pending ≡ 0 = ap missing_behind_count first ∙ ap integer_missing second in
          absurd (omega (arith, waits, none))
    ]
