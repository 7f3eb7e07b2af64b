-- Sections read alone: reading from left to right finds exactly what they mean.
use Rattle.std.proofs.Common.{◌≡◌, ℕ, zero, suc, ◌+◌, ◌<◌, ◌≤◌, List, [], ◌∷◌, ◌++◌, length, Option}
use Rattle.std.proofs.Common.{Some, Result, Ok}
use Rattle.std.proofs.Common.{Err, refl, sym, ap, subst, ◌∙◌, append_assoc, zero-add, arith, inl, inr, length-append}
use Rattle.std.proofs.Common.{◌⊎◌}
use Rattle.std.proofs.lemmas.Bool.{lt-ltb, le-ltb, cases_lt}
use Rattle.qpack_spec.specs.Bytes.{◌>>=◌}
use Rattle.qpack_spec.specs.Field.{Field, field_size, total_size}
use Rattle.qpack_spec.specs.Form.{FormFault, Form, Index, IndexAndValue, SpellsForm, form_at}
use Rattle.qpack_spec.specs.Line.{Line, line_form, SpellsLine, NamedPostBase, IndexedPostBase}
use Rattle.qpack_spec.specs.Prefix.{Prefix, SpellsPrefix, prefix_at}
use Rattle.qpack_spec.specs.Stream.{SpellsAll}
use Rattle.qpack_spec.specs.Reading.{BadForm}
use Rattle.qpack_spec.specs.Stateless.{StatelessFault, BadSection, NamesEntry, TooLong, saturated_size, stateless_field}
use Rattle.qpack_spec.specs.Stateless.{or_bad_bytes, within_limit, stateless_at, stateless_reading}
use Rattle.qpack_spec.specs.StatelessMeaning.{SpellsStatelessField, StopsLine, post_base, in_bytes, in_line, past_limit}
use Rattle.qpack_spec.specs.StatelessMeaning.{StopsBehind, in_prefix, in_lines, GivesStateless}
use Rattle.qpack_spec.specs.StatelessMeaning.{StatelessReadingIsMeaning}
use Rattle.qpack_spec.proofs.Sizes.{total_first}
use Rattle.qpack_spec.proofs.FormLaws.{form_takes, form_again}
use Rattle.qpack_spec.proofs.BlockReadings.{spelled_length, prefix_takes, prefix_again}

-- ---- what is read of the next line, and behind it

abbrev bad : StatelessFault → Result (List Field) StatelessFault
bad e = Err e

-- a field in front
abbrev pub before : Field → Result (List Field) StatelessFault → Result (List Field) StatelessFault
before f r = r >>= λ fs. Ok (f ∷ fs)

unfoldable pub limited : ℕ → ℕ → ℕ → Field → List ℕ → Result (List Field) StatelessFault
limited steps limit sum f rest =
    within_limit limit sum f >>= λ g. before g (stateless_at steps limit (sum + field_size g) rest)

unfoldable pub meant : ℕ → ℕ → ℕ → Result Field StatelessFault → List ℕ → Result (List Field) StatelessFault
meant steps limit sum r rest = r >>= λ f. limited steps limit sum f rest

unfoldable pub next : ℕ → ℕ → ℕ → Result (Line × List ℕ) FormFault → Result (List Field) StatelessFault
next steps limit sum r = or_bad_bytes r >>= λ l. meant steps limit sum (stateless_field l.0) l.1

pub low_is : (steps limit sum b : ℕ) (bytes : List ℕ) → b < 32
    → stateless_at (suc steps) limit sum (b ∷ bytes) ≡ bad NamesEntry
unfolding stateless_at
low_is steps limit sum b bytes h = rw (lt-ltb b 32 h) refl

pub high_is : (steps limit sum b : ℕ) (bytes : List ℕ) → 32 ≤ b
    → stateless_at (suc steps) limit sum (b ∷ bytes) ≡ next steps limit sum (form_at line_form (b ∷ bytes))
unfolding stateless_at next meant limited
high_is steps limit sum b bytes h = rw (le-ltb b 32 h) refl

next_bad : (steps limit sum : ℕ) (e : FormFault) → next steps limit sum (Err e) ≡ bad (BadSection (BadForm e))
unfolding next
next_bad steps limit sum e = refl

pub next_ok : (steps limit sum : ℕ) (l : Line) (rest : List ℕ)
    → next steps limit sum (Ok (l, rest)) ≡ meant steps limit sum (stateless_field l) rest
unfolding next
next_ok steps limit sum l rest = refl

meant_bad : (steps limit sum : ℕ) (e : StatelessFault) (rest : List ℕ) → meant steps limit sum (Err e) rest ≡ bad e
unfolding meant
meant_bad steps limit sum e rest = refl

pub meant_ok : (steps limit sum : ℕ) (f : Field) (rest : List ℕ)
    → meant steps limit sum (Ok f) rest ≡ limited steps limit sum f rest
unfolding meant
meant_ok steps limit sum f rest = refl

pub limited_long : (steps limit sum : ℕ) (f : Field) (rest : List ℕ) → limit < saturated_size (sum + field_size f)
    → limited steps limit sum f rest ≡ bad (TooLong (saturated_size (sum + field_size f)))
unfolding limited
limited_long steps limit sum f rest h = rw (lt-ltb _ _ h) refl

pub limited_ok : (steps limit sum : ℕ) (f : Field) (rest : List ℕ) → saturated_size (sum + field_size f) ≤ limit
    → limited steps limit sum f rest ≡ before f (stateless_at steps limit (sum + field_size f) rest)
unfolding limited
limited_ok steps limit sum f rest h = rw (le-ltb _ _ h) refl

pub none_alone : (steps limit sum : ℕ) → stateless_at steps limit sum [] ≡ Ok []
unfolding stateless_at
none_alone zero limit sum = refl
none_alone (suc steps) limit sum = refl

-- ---- reading line by line finds what the lines mean

-- what lines give: fields, or the first fault
abbrev LinesGive : ℕ → ℕ → List ℕ → Result (List Field) StatelessFault → Type 0
LinesGive limit sum bytes (Ok fs) = SpellsAll SpellsStatelessField bytes fs
    × (saturated_size (sum + total_size fs) ≤ limit)
LinesGive limit sum bytes (Err e) = StopsBehind limit sum bytes e

sum_none : (sum : ℕ) → sum + total_size [] ≡ sum
sum_none sum = omega arith

low_none : (limit sum : ℕ) → saturated_size sum ≤ limit → saturated_size (sum + total_size []) ≤ limit
low_none limit sum h = subst (λ (n : ℕ). saturated_size n ≤ limit) (sym (sum_none sum)) h

stops_here : (limit sum b : ℕ) (bytes : List ℕ) (e : StatelessFault) → saturated_size sum ≤ limit
    → StopsLine limit sum b bytes e → StopsBehind limit sum (b ∷ bytes) e
stops_here limit sum b bytes e low s =
    record {
      front = [];
      first = b;
      more = bytes;
      cut = refl;
      so_far = [];
      joined = refl;
      within = low_none limit sum low;
      stops = subst (λ (n : ℕ). StopsLine limit n b bytes e) (sym (sum_none sum)) s;
    }

sum_first : (sum : ℕ) (f : Field) (fs : List Field) → sum + field_size f + total_size fs ≡ sum + total_size (f ∷ fs)
sum_first sum f fs = omega (arith, total_first f fs)

line_before : (limit sum : ℕ) (encoding more : List ℕ) (f : Field) (r : Result (List Field) StatelessFault)
    → SpellsStatelessField encoding f
    → LinesGive limit (sum + field_size f) more r → LinesGive limit sum (encoding ++ more) (before f r)
line_before limit sum encoding more f (Ok fs) s k =
    ((encoding, more, refl, s, k.0), subst (λ (n : ℕ). saturated_size n ≤ limit) (sum_first sum f fs) k.1)
line_before limit sum encoding more f (Err e) s k =
    record {
      front = encoding ++ k.front;
      first = k.first;
      more = k.more;
      cut = ap (λ x. encoding ++ x) k.cut ∙ sym (append_assoc encoding k.front (k.first ∷ k.more));
      so_far = f ∷ k.so_far;
      joined = (encoding, k.front, refl, s, k.joined);
      within = subst (λ (n : ℕ). saturated_size n ≤ limit) (sum_first sum f k.so_far) k.within;
      stops = subst (λ (n : ℕ). StopsLine limit n k.first k.more e) (sum_first sum f k.so_far) k.stops;
    }

lines_found : (steps limit sum : ℕ) (bytes : List ℕ) → length bytes ≤ steps → saturated_size sum ≤ limit
    → LinesGive limit sum bytes (stateless_at steps limit sum bytes)
lines_found steps limit sum [] h low =
    subst (LinesGive limit sum []) (sym (none_alone steps limit sum)) (refl, low_none limit sum low)
lines_found zero limit sum (b ∷ bytes) h low = absurd (omega arith)
lines_found (suc steps) limit sum (b ∷ bytes) h low =
    by_first (λ n x le low'. lines_found steps limit n x le low') (cases_lt b 32)
  where
    by_limit : (l : Line) (rest encoding : List ℕ) (f : Field) → b ∷ bytes ≡ encoding ++ rest → SpellsLine encoding l
        → stateless_field l ≡ Ok f
        → ((n : ℕ) (x : List ℕ) → length x ≤ steps → saturated_size n ≤ limit
        → LinesGive limit n x (stateless_at steps limit n x))
        → (limit < saturated_size (sum + field_size f)) ⊎ (saturated_size (sum + field_size f) ≤ limit)
        → LinesGive limit sum (b ∷ bytes) (limited steps limit sum f rest)
    by_limit l rest encoding f p s m found (inl long) =
        subst (LinesGive limit sum (b ∷ bytes)) (sym (limited_long steps limit sum f rest long))
        (stops_here limit sum b bytes (TooLong (saturated_size (sum + field_size f))) low
        (past_limit encoding rest f p (l, s, m) long refl))
    by_limit l rest encoding f p s m found (inr fits) =
        let short : length rest ≤ steps = omega (arith, h, ap length p, spelled_length encoding rest l s) in
        subst (LinesGive limit sum (b ∷ bytes)) (sym (limited_ok steps limit sum f rest fits))
        (subst (λ (x : List ℕ). LinesGive limit sum x (before f (stateless_at steps limit (sum + field_size f) rest)))
        (sym p)
        (line_before limit sum encoding rest f (stateless_at steps limit (sum + field_size f) rest) (l, s, m)
        (found (sum + field_size f) rest short fits)))

    by_meaning : (l : Line) (rest encoding : List ℕ) → 32 ≤ b → b ∷ bytes ≡ encoding ++ rest → SpellsLine encoding l
        → ((n : ℕ) (x : List ℕ) → length x ≤ steps → saturated_size n ≤ limit
        → LinesGive limit n x (stateless_at steps limit n x))
        → (r : Result Field StatelessFault) → stateless_field l ≡ r
        → LinesGive limit sum (b ∷ bytes) (meant steps limit sum r rest)
    by_meaning l rest encoding high p s found (Err e) m =
        subst (LinesGive limit sum (b ∷ bytes)) (sym (meant_bad steps limit sum e rest))
        (stops_here limit sum b bytes e low (in_line high encoding rest l p s m))
    by_meaning l rest encoding high p s found (Ok f) m =
        subst (LinesGive limit sum (b ∷ bytes)) (sym (meant_ok steps limit sum f rest))
        (by_limit l rest encoding f p s m found (cases_lt limit (saturated_size (sum + field_size f))))

    by_form : 32 ≤ b → ((n : ℕ) (x : List ℕ) → length x ≤ steps → saturated_size n ≤ limit
        → LinesGive limit n x (stateless_at steps limit n x))
        → (r : Result (Line × List ℕ) FormFault) → form_at line_form (b ∷ bytes) ≡ r
        → LinesGive limit sum (b ∷ bytes) (next steps limit sum r)
    by_form high found (Err e) q =
        subst (LinesGive limit sum (b ∷ bytes)) (sym (next_bad steps limit sum e))
        (stops_here limit sum b bytes (BadSection (BadForm e)) low (in_bytes high e q refl))
    by_form high found (Ok r) q =
        let t = form_takes line_form (b ∷ bytes) r.0 r.1 q in
        subst (LinesGive limit sum (b ∷ bytes)) (sym (next_ok steps limit sum r.0 r.1))
        (by_meaning r.0 r.1 t.encoding high t.parts t.spells found (stateless_field r.0) refl)

    by_first : ((n : ℕ) (x : List ℕ) → length x ≤ steps → saturated_size n ≤ limit
        → LinesGive limit n x (stateless_at steps limit n x))
        → (b < 32) ⊎ (32 ≤ b) → LinesGive limit sum (b ∷ bytes) (stateless_at (suc steps) limit sum (b ∷ bytes))
    by_first found (inl less) =
        subst (LinesGive limit sum (b ∷ bytes)) (sym (low_is steps limit sum b bytes less))
        (stops_here limit sum b bytes NamesEntry low (post_base less refl))
    by_first found (inr high) =
        subst (LinesGive limit sum (b ∷ bytes)) (sym (high_is steps limit sum b bytes high))
        (by_form high found (form_at line_form (b ∷ bytes)) refl)

-- ---- and nothing else

form_below : (b : ℕ) → b < 16 → line_form b ≡ Some (IndexAndValue 3 NamedPostBase)
unfolding line_form
form_below b h = rw (lt-ltb b 16 h) refl

form_between : (b : ℕ) → 16 ≤ b → b < 32 → line_form b ≡ Some (Index 4 IndexedPostBase)
unfolding line_form
form_between b low h = rw (le-ltb b 16 low, lt-ltb b 32 h) refl

same_form : (o : Option (Form Line)) (f g : Form Line) → o ≡ Some f → o ≡ Some g → f ≡ g
same_form o f g p q = cc

-- a post-base line means nothing alone
pub low_means : (b : ℕ) (encoding : List ℕ) (l : Line) (form : Form Line) → b < 32 → line_form b ≡ Some form
    → SpellsForm form encoding l → stateless_field l ≡ Err NamesEntry
low_means b encoding l form h named s = pick (cases_lt b 16)
  where
    pick : (b < 16) ⊎ (16 ≤ b) → stateless_field l ≡ Err NamesEntry
    pick (inl p) =
        let k = subst (λ (x : Form Line). SpellsForm x encoding l)
        (same_form (line_form b) form (IndexAndValue 3 NamedPostBase) named (form_below b p)) s in
        ap stateless_field k.3
    pick (inr p) =
        let k = subst (λ (x : Form Line). SpellsForm x encoding l)
        (same_form (line_form b) form (Index 4 IndexedPostBase) named (form_between b p h)) s in
        ap stateless_field k.2

pub no_entry : (l : Line) (f : Field) → stateless_field l ≡ Ok f → stateless_field l ≡ Err NamesEntry → ⊥
no_entry l f p q = cc

high_first : (encoding : List ℕ) (f : Field) (s : SpellsStatelessField encoding f) → 32 ≤ s.1.first
high_first encoding f s =
    elim (cases_lt s.1.first 32) [
      | inl less ↦ absurd (no_entry s.0 f s.2 (low_means s.1.first encoding s.0 s.1.form less s.1.names s.1.spells))
      | inr high ↦ high
    ]

-- a line that means a field is read, and what is behind it
step : (steps limit sum : ℕ) (encoding more : List ℕ) (f : Field) → SpellsStatelessField encoding f
    → stateless_at (suc steps) limit sum (encoding ++ more) ≡ limited steps limit sum f more
step steps limit sum encoding more f s =
    let split : encoding ++ more ≡ s.1.first ∷ (s.1.more ++ more) = ap (λ x. x ++ more) s.1.begins in
    let read : form_at line_form (s.1.first ∷ (s.1.more ++ more)) ≡ Ok (s.0, more) =
    ap (form_at line_form) (sym split) ∙ form_again line_form encoding more s.0 s.1 in
    ap (stateless_at (suc steps) limit sum) split
    ∙ high_is steps limit sum s.1.first (s.1.more ++ more) (high_first encoding f s)
    ∙ ap (next steps limit sum) read ∙ next_ok steps limit sum s.0 more ∙ ap (λ r. meant steps limit sum r more) s.2
    ∙ meant_ok steps limit sum f more

field_length : (encoding more : List ℕ) (f : Field) → SpellsStatelessField encoding f → length more
    < length (encoding ++ more)
field_length encoding more f s = spelled_length encoding more s.0 s.1

-- what holds of a sum holds of its beginning
fits_first : (limit sum : ℕ) (f : Field) (fs : List Field) → saturated_size (sum + total_size (f ∷ fs)) ≤ limit
    → (saturated_size (sum + field_size f) ≤ limit) × (saturated_size (sum + field_size f + total_size fs) ≤ limit)
fits_first limit sum f fs h = (omega (arith, h, total_first f fs), omega (arith, h, total_first f fs))

lines_read : (steps limit sum : ℕ) (bytes : List ℕ) (fs : List Field) → length bytes ≤ steps
    → SpellsAll SpellsStatelessField bytes fs → saturated_size (sum + total_size fs) ≤ limit
    → stateless_at steps limit sum bytes ≡ Ok fs
lines_read steps limit sum bytes [] h j low = ap (stateless_at steps limit sum) j ∙ none_alone steps limit sum
lines_read zero limit sum bytes (f ∷ fs) h j low = absurd (omega (arith, ap length j.2, field_length j.0 j.1 f j.3))
lines_read (suc steps) limit sum bytes (f ∷ fs) h j low =
    let fits = fits_first limit sum f fs low in
    let short : length j.1 ≤ steps = omega (arith, h, ap length j.2, field_length j.0 j.1 f j.3) in
    ap (stateless_at (suc steps) limit sum) j.2 ∙ step steps limit sum j.0 j.1 f j.3
    ∙ limited_ok steps limit sum f j.1 fits.0
    ∙ ap (before f) (lines_read steps limit (sum + field_size f) j.1 fs short j.4 fits.1)

-- the next line stops the reading
stop_read : (steps limit sum first : ℕ) (more : List ℕ) (e : StatelessFault) → length (first ∷ more) ≤ steps
    → StopsLine limit sum first more e
    → stateless_at steps limit sum (first ∷ more) ≡ Err e
stop_read zero limit sum first more e h s = absurd (omega arith)
stop_read (suc steps) limit sum first more e h (post_base less same) =
    low_is steps limit sum first more less ∙ ap bad (sym same)
stop_read (suc steps) limit sum first more e h (in_bytes high fault q same) =
    high_is steps limit sum first more high ∙ ap (next steps limit sum) q ∙ next_bad steps limit sum fault
    ∙ ap bad (sym same)
stop_read (suc steps) limit sum first more e h (in_line high encoding rest l cut s m) =
    let read : form_at line_form (first ∷ more) ≡ Ok (l, rest) =
    ap (form_at line_form) cut ∙ form_again line_form encoding rest l s in
    high_is steps limit sum first more high ∙ ap (next steps limit sum) read ∙ next_ok steps limit sum l rest
    ∙ ap (λ r. meant steps limit sum r rest) m ∙ meant_bad steps limit sum e rest
stop_read (suc steps) limit sum first more e h (past_limit encoding rest f cut s long same) =
    ap (stateless_at (suc steps) limit sum) cut ∙ step steps limit sum encoding rest f s
    ∙ limited_long steps limit sum f rest long ∙ ap bad (sym same)

-- lines that mean fields, and then one that stops
front_read : (steps limit sum : ℕ) (front : List ℕ) (fs : List Field) (first : ℕ) (more : List ℕ) (e : StatelessFault)
    → length (front ++ first ∷ more) ≤ steps
    → SpellsAll SpellsStatelessField front fs → saturated_size (sum + total_size fs) ≤ limit
    → StopsLine limit (sum + total_size fs) first more e
    → stateless_at steps limit sum (front ++ first ∷ more) ≡ Err e
front_read steps limit sum front [] first more e h j low s =
    let none : sum + total_size [] ≡ sum = sum_none sum in
    ap (λ x. stateless_at steps limit sum (x ++ first ∷ more)) j
    ∙ stop_read steps limit sum first more e (omega (arith, h, length-append front (first ∷ more)))
    (subst (λ (n : ℕ). StopsLine limit n first more e) none s)
front_read zero limit sum front (f ∷ fs) first more e h j low s =
    absurd (omega (arith, h, length-append front (first ∷ more), ap length j.2, field_length j.0 j.1 f j.3))
front_read (suc steps) limit sum front (f ∷ fs) first more e h j low s =
    let fits = fits_first limit sum f fs low in
    let rest = j.1 ++ first ∷ more in
    let split : front ++ first ∷ more ≡ j.0 ++ rest =
    ap (λ x. x ++ first ∷ more) j.2 ∙ append_assoc j.0 j.1 (first ∷ more) in
    let short : length rest ≤ steps = omega (arith, h, ap length split, field_length j.0 rest f j.3) in
    ap (stateless_at (suc steps) limit sum) split ∙ step steps limit sum j.0 rest f j.3
    ∙ limited_ok steps limit sum f rest fits.0
    ∙ ap (before f) (front_read steps limit (sum + field_size f) j.1 fs first more e short j.4 fits.1
    (subst (λ (n : ℕ). StopsLine limit n first more e) (sym (sum_first sum f fs)) s))

-- ---- whole sections

unfoldable pub behind_prefix : ℕ → Result (Prefix × List ℕ) FormFault → Result (List Field) StatelessFault
behind_prefix limit r = or_bad_bytes r >>= λ p. stateless_at (length p.1) limit 0 p.1

pub section_is : (limit : ℕ) (bytes : List ℕ) → stateless_reading limit bytes ≡ behind_prefix limit (prefix_at bytes)
unfolding stateless_reading behind_prefix
section_is limit bytes = refl

pub prefix_bad : (limit : ℕ) (e : FormFault) → behind_prefix limit (Err e) ≡ bad (BadSection (BadForm e))
unfolding behind_prefix
prefix_bad limit e = refl

pub prefix_ok : (limit : ℕ) (p : Prefix) (rest : List ℕ)
    → behind_prefix limit (Ok (p, rest)) ≡ stateless_at (length rest) limit 0 rest
unfolding behind_prefix
prefix_ok limit p rest = refl

held_none : (limit : ℕ) → saturated_size 0 ≤ limit
held_none limit = omega arith

section_found : (limit : ℕ) (bytes : List ℕ) → GivesStateless limit bytes (stateless_reading limit bytes)
section_found limit bytes = subst (GivesStateless limit bytes) (sym (section_is limit bytes))
    (go (prefix_at bytes) refl)
  where
    behind : (head lines : List ℕ) (p : Prefix) → bytes ≡ head ++ lines → SpellsPrefix head p
        → (r : Result (List Field) StatelessFault) → LinesGive limit 0 lines r → GivesStateless limit bytes r
    behind head lines p cut s (Ok fs) k =
        record {
          head = head;
          lines = lines;
          cut = cut;
          prefix = p;
          spells = s;
          joined = k.0;
          within = subst (λ (n : ℕ). saturated_size n ≤ limit) (zero-add (total_size fs)) k.1;
        }
    behind head lines p cut s (Err e) k = in_lines head lines p cut s k

    go : (r : Result (Prefix × List ℕ) FormFault) → prefix_at bytes ≡ r
        → GivesStateless limit bytes (behind_prefix limit r)
    go (Err e) q = subst (GivesStateless limit bytes) (sym (prefix_bad limit e)) (in_prefix e q refl)
    go (Ok p) q =
        let t = prefix_takes bytes p.0 p.1 q in
        subst (GivesStateless limit bytes) (sym (prefix_ok limit p.0 p.1))
        (behind t.encoding p.1 p.0 t.parts t.spells (stateless_at (length p.1) limit 0 p.1)
        (lines_found (length p.1) limit 0 p.1 (omega arith) (held_none limit)))

section_spelled : (limit : ℕ) (bytes head lines : List ℕ) (p : Prefix) → bytes ≡ head ++ lines → SpellsPrefix head p
    → stateless_reading limit bytes ≡ stateless_at (length lines) limit 0 lines
section_spelled limit bytes head lines p cut s =
    section_is limit bytes ∙ ap (behind_prefix limit) (ap prefix_at cut ∙ prefix_again head lines p s)
    ∙ prefix_ok limit p lines

section_only : (limit : ℕ) (bytes : List ℕ) (r : Result (List Field) StatelessFault) → GivesStateless limit bytes r
    → stateless_reading limit bytes ≡ r
section_only limit bytes (Ok fs) k =
    section_spelled limit bytes k.head k.lines k.prefix k.cut k.spells
    ∙ lines_read (length k.lines) limit 0 k.lines fs (omega arith) k.joined
    (subst (λ (n : ℕ). saturated_size n ≤ limit) (sym (zero-add (total_size fs))) k.within)
section_only limit bytes (Err e) (in_prefix fault q same) =
    section_is limit bytes ∙ ap (behind_prefix limit) q ∙ prefix_bad limit fault ∙ ap bad (sym same)
section_only limit bytes (Err e) (in_lines head lines p cut s k) =
    section_spelled limit bytes head lines p cut s ∙ ap (stateless_at (length lines) limit 0) k.cut
    ∙ front_read (length lines) limit 0 k.front k.so_far k.first k.more e (omega (arith, ap length k.cut)) k.joined
    k.within k.stops

pub reading_alone : StatelessReadingIsMeaning
reading_alone limit bytes r =
    (λ e. subst (GivesStateless limit bytes) e (section_found limit bytes), section_only limit bytes r)
