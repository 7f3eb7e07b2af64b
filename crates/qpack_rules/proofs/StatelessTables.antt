-- Sections read alone, and under an empty table of capacity 0.
use Rattle.std.proofs.Common.{◌≡◌, ℕ, zero, suc, ◌+◌, ◌-◌, ◌<◌, ◌≤◌, Bool, false, List, [], ◌∷◌, ◌++◌, length}
use Rattle.std.proofs.Common.{Option, Result, Ok, Err, refl, sym, ap, subst, ◌∙◌, arith, inl, inr, ◌⊎◌}
use Rattle.std.proofs.Common.{length-append}
use Rattle.std.proofs.lemmas.Bool.{lt-ltb, le-ltb, cases_lt}
use Rattle.qpack_spec.specs.Bytes.{◌>>=◌}
use Rattle.qpack_spec.specs.Field.{Field, field_size}
use Rattle.qpack_spec.specs.Form.{FormFault, form_at}
use Rattle.qpack_spec.specs.Line.{Line, IndexedStatic, IndexedDynamic, IndexedPostBase, NamedStatic, NamedDynamic}
use Rattle.qpack_spec.specs.Line.{NamedPostBase, Literal, line_form}
use Rattle.qpack_spec.specs.Prefix.{Prefix, read_required, read_prefix, prefix_at}
use Rattle.qpack_spec.specs.Window.{Window, maximum_capacity}
use Rattle.qpack_spec.specs.Reading.{Fault, BadForm, BelowWindow, BehindBase}
use Rattle.qpack_spec.specs.Reading.{static_field, relative_field, post_base_field, field_with_value, line_field}
use Rattle.qpack_spec.specs.Reading.{Fields}
use Rattle.qpack_spec.specs.Reading.{Faulty, reading_of_fields}
use Rattle.qpack_spec.specs.BlockReading.{or_bad_form, fields_at, fields_in_bytes, bytes_behind, section_behind}
use Rattle.qpack_spec.specs.BlockReading.{reading_of_bytes}
use Rattle.qpack_spec.specs.Stateless.{StatelessFault, BadSection, NamesEntry, TooLong, saturated_size, or_bad_section}
use Rattle.qpack_spec.specs.Stateless.{stateless_field, stateless_at, stateless_reading, up_to_limit}
use Rattle.qpack_spec.specs.StatelessMeaning.{no_table, IsNoEntry, NamesNoEntry, no_entry, unread_post_base}
use Rattle.qpack_spec.specs.StatelessMeaning.{AgreesWithoutTable, StatelessIsWithoutTable}
use Rattle.std.proofs.lemmas.List.{append_assoc}
use Rattle.qpack_spec.proofs.FormLaws.{form_takes}
use Rattle.qpack_spec.proofs.BlockReadings.{prefix_takes, no_bytes}
use Rattle.qpack_rules.proofs.StatelessMeanings.{no_entry as no_entry_alone, before, limited, meant, next, next_ok}
use Rattle.qpack_rules.proofs.StatelessMeanings.{meant_ok, low_is}
use Rattle.qpack_rules.proofs.StatelessMeanings.{high_is}
use Rattle.qpack_rules.proofs.StatelessMeanings.{limited_long, limited_ok, none_alone, low_means, behind_prefix}
use Rattle.qpack_rules.proofs.StatelessMeanings.{section_is, prefix_bad, prefix_ok}
use Rattle.qpack_spec.proofs.Results.{ok_is}

-- ---- one line

-- what a line means alone, and under the empty table
abbrev LineAgrees : Result Field StatelessFault → Result Field Fault → Type 0
LineAgrees (Ok f) r = r ≡ Ok f
LineAgrees (Err (BadSection e)) r = r ≡ Err e
LineAgrees (Err NamesEntry) r = (e : Fault) × (r ≡ Err e) × IsNoEntry e
LineAgrees (Err (TooLong sum)) r = ⊥

static_agrees : (r : Result Field Fault) → LineAgrees (or_bad_section r) r
static_agrees (Ok f) = refl
static_agrees (Err e) = refl

relative_none : (agreed_max : Option ℕ) (relative : ℕ)
    → relative_field (no_table agreed_max) 0 relative ≡ Err (BelowWindow relative)
unfolding relative_field
relative_none agreed_max relative = rw (le-ltb 0 (0 - relative) (omega arith)) refl

post_base_none : (agreed_max : Option ℕ) (post_base : ℕ)
    → post_base_field (no_table agreed_max) 0 post_base ≡ Err (BehindBase post_base)
unfolding post_base_field
post_base_none agreed_max post_base = rw (lt-ltb 0 (0 + post_base + 1) (omega arith)) refl

line_agrees : (agreed_max : Option ℕ) (l : Line) → LineAgrees (stateless_field l) (line_field (no_table agreed_max) 0 l)
unfolding line_field
line_agrees agreed_max (IndexedStatic index) = static_agrees (static_field index)
line_agrees agreed_max (IndexedDynamic relative) = (BelowWindow relative, relative_none agreed_max relative, tt)
line_agrees agreed_max (IndexedPostBase post_base) = (BehindBase post_base, post_base_none agreed_max post_base, tt)
line_agrees agreed_max (NamedStatic index value) = static_agrees (field_with_value value (static_field index))
line_agrees agreed_max (NamedDynamic relative value) =
    (BelowWindow relative, ap (field_with_value value) (relative_none agreed_max relative), tt)
line_agrees agreed_max (NamedPostBase post_base value) =
    (BehindBase post_base, ap (field_with_value value) (post_base_none agreed_max post_base), tt)
line_agrees agreed_max (Literal name value) = refl

-- a line that means a field under the table means it alone
line_alone : (r : Result Field StatelessFault) (q : Result Field Fault) (f : Field) → LineAgrees r q → q ≡ Ok f
    → r ≡ Ok f
line_alone (Ok g) q f k e = let both : q ≡ Ok g = k in cc
line_alone (Err (BadSection x)) q f k e = absurd (let both : q ≡ Err x = k in cc)
line_alone (Err NamesEntry) q f k e = absurd (let both : q ≡ Err k.0 = k.1 in cc)
line_alone (Err (TooLong sum)) q f k e = absurd k

-- ---- lines

-- what lines mean alone, and under the empty table
abbrev LinesAgree : List ℕ → Result (List Field) StatelessFault → Result (List Field) Fault → Type 0
LinesAgree bytes (Ok fs) r = r ≡ Ok fs
LinesAgree bytes (Err (BadSection e)) r = r ≡ Err e
LinesAgree bytes (Err NamesEntry) r = (e : Fault) × (r ≡ Err e) × NamesNoEntry bytes e
LinesAgree bytes (Err (TooLong sum)) r = Unit {0}

-- bytes in front
names_behind : (encoding bytes : List ℕ) (e : Fault) → NamesNoEntry bytes e → NamesNoEntry (encoding ++ bytes) e
names_behind encoding bytes e (no_entry k) = no_entry k
names_behind encoding bytes e (unread_post_base front more first fault cut less q is) =
    unread_post_base (encoding ++ front) more first fault
    (ap (λ x. encoding ++ x) cut ∙ sym (append_assoc encoding front (first ∷ more))) less q is

-- the fields of the next line and those behind it, under a window
behind_field : ℕ → Window → ℕ → Result Field Fault → List ℕ → Result (List Field) Fault
behind_field steps w base r rest = r >>= λ f. fields_at steps w base rest >>= λ fs. Ok (f ∷ fs)

behind_line : ℕ → Window → ℕ → Result (Line × List ℕ) FormFault → Result (List Field) Fault
behind_line steps w base r = or_bad_form r >>= λ l. behind_field steps w base (line_field w base l.0) l.1

fields_are : (steps : ℕ) (w : Window) (base b : ℕ) (bytes : List ℕ)
    → fields_at (suc steps) w base (b ∷ bytes) ≡ behind_line steps w base (form_at line_form (b ∷ bytes))
unfolding fields_at behind_line behind_field
fields_are steps w base b bytes = refl

-- a field in front
field_agrees : (f : Field) (encoding rest : List ℕ) (r : Result (List Field) StatelessFault)
    (q : Result (List Field) Fault)
    → LinesAgree rest r q → LinesAgree (encoding ++ rest) (before f r) (q >>= λ fs. Ok (f ∷ fs))
field_agrees f encoding rest (Ok fs) q k = ap (λ (x : Result (List Field) Fault). x >>= λ gs. Ok (f ∷ gs)) k
field_agrees f encoding rest (Err (BadSection e)) q k =
    ap (λ (x : Result (List Field) Fault). x >>= λ gs. Ok (f ∷ gs)) k
field_agrees f encoding rest (Err NamesEntry) q k =
    (k.0, ap (λ (x : Result (List Field) Fault). x >>= λ gs. Ok (f ∷ gs)) k.1, names_behind encoding rest k.0 k.2)
field_agrees f encoding rest (Err (TooLong sum)) q k = tt

line_stops : (steps : ℕ) (agreed_max : Option ℕ) (e : StatelessFault) (q : Result Field Fault) (bytes rest : List ℕ)
    → LineAgrees (Err e) q → LinesAgree bytes (Err e) (behind_field steps (no_table agreed_max) 0 q rest)
unfolding behind_field
line_stops steps agreed_max (BadSection x) q bytes rest k =
    ap (λ (r : Result Field Fault). r >>= λ f. fields_at steps (no_table agreed_max) 0 rest >>= λ fs. Ok (f ∷ fs)) k
line_stops steps agreed_max NamesEntry q bytes rest k = (
  k.0,
  ap (λ (r : Result Field Fault). r >>= λ f. fields_at steps (no_table agreed_max) 0 rest >>= λ fs. Ok (f ∷ fs)) k.1,
  no_entry k.2,
)
line_stops steps agreed_max (TooLong sum) q bytes rest k = tt

-- a first byte below 32 is of a post-base line
low_alone : (b : ℕ) (bytes : List ℕ) (l : Line) (rest : List ℕ) → b < 32 → form_at line_form (b ∷ bytes) ≡ Ok (l, rest)
    → stateless_field l ≡ Err NamesEntry
low_alone b bytes l rest less q =
    let t = form_takes line_form (b ∷ bytes) l rest q in
    let same : b ∷ bytes ≡ t.spells.first ∷ (t.spells.more ++ rest) = t.parts ∙ ap (λ x. x ++ rest) t.spells.begins in
    let first : t.spells.first ≡ b = cc in
    low_means t.spells.first t.encoding l t.spells.form (omega (arith, less, first)) t.spells.names t.spells.spells

low_agrees : (steps : ℕ) (agreed_max : Option ℕ) (b : ℕ) (bytes : List ℕ) → b < 32
    → (r : Result (Line × List ℕ) FormFault)
    → form_at line_form (b ∷ bytes) ≡ r
    → LinesAgree (b ∷ bytes) (Err NamesEntry) (behind_line steps (no_table agreed_max) 0 r)
unfolding behind_line
low_agrees steps agreed_max b bytes less (Err e) q = (BadForm e, refl, unread_post_base [] bytes b e refl less q refl)
low_agrees steps agreed_max b bytes less (Ok x) q =
    line_stops steps agreed_max NamesEntry (line_field (no_table agreed_max) 0 x.0) (b ∷ bytes) x.1
    (subst (λ (r : Result Field StatelessFault). LineAgrees r (line_field (no_table agreed_max) 0 x.0))
    (low_alone b bytes x.0 x.1 less q) (line_agrees agreed_max x.0))

-- behind a whole line
meant_agrees : (steps limit sum : ℕ) (agreed_max : Option ℕ) (encoding rest : List ℕ)
    → ((n : ℕ) → LinesAgree rest (stateless_at steps limit n rest) (fields_at steps (no_table agreed_max) 0 rest))
    → (r : Result Field StatelessFault) (q : Result Field Fault) → LineAgrees r q
    → LinesAgree (encoding ++ rest) (meant steps limit sum r rest) (behind_field steps (no_table agreed_max) 0 q rest)
unfolding behind_field meant
meant_agrees steps limit sum agreed_max encoding rest ih (Err e) q k = line_stops steps agreed_max e q
    (encoding ++ rest) rest k
meant_agrees steps limit sum agreed_max encoding rest ih (Ok f) q k =
    subst (λ (x : Result Field Fault). LinesAgree (encoding ++ rest) (limited steps limit sum f rest)
    (x >>= λ g. fields_at steps (no_table agreed_max) 0 rest >>= λ fs. Ok (g ∷ fs))) (sym k)
    (pick (cases_lt limit (saturated_size (sum + field_size f))))
  where
    pick : (limit < saturated_size (sum + field_size f)) ⊎ (saturated_size (sum + field_size f) ≤ limit)
        → LinesAgree (encoding ++ rest) (limited steps limit sum f rest)
        (fields_at steps (no_table agreed_max) 0 rest >>= λ fs. Ok (f ∷ fs))
    pick (inl long) =
        subst (λ (x : Result (List Field) StatelessFault). LinesAgree (encoding ++ rest) x
        (fields_at steps (no_table agreed_max) 0 rest >>= λ fs. Ok (f ∷ fs)))
        (sym (limited_long steps limit sum f rest long)) tt
    pick (inr fits) =
        subst (λ (x : Result (List Field) StatelessFault). LinesAgree (encoding ++ rest) x
        (fields_at steps (no_table agreed_max) 0 rest >>= λ fs. Ok (f ∷ fs)))
        (sym (limited_ok steps limit sum f rest fits))
        (field_agrees f encoding rest (stateless_at steps limit (sum + field_size f) rest)
        (fields_at steps (no_table agreed_max) 0 rest) (ih (sum + field_size f)))

high_agrees : (steps limit sum : ℕ) (agreed_max : Option ℕ) (bytes : List ℕ)
    → ((n : ℕ) (x : List ℕ) → LinesAgree x (stateless_at steps limit n x) (fields_at steps (no_table agreed_max) 0 x))
    → (r : Result (Line × List ℕ) FormFault) → form_at line_form bytes ≡ r
    → LinesAgree bytes (next steps limit sum r) (behind_line steps (no_table agreed_max) 0 r)
unfolding behind_line next
high_agrees steps limit sum agreed_max bytes ih (Err e) q = refl
high_agrees steps limit sum agreed_max bytes ih (Ok x) q =
    let t = form_takes line_form bytes x.0 x.1 q in
    subst (λ (b : List ℕ). LinesAgree b (meant steps limit sum (stateless_field x.0) x.1)
    (behind_field steps (no_table agreed_max) 0 (line_field (no_table agreed_max) 0 x.0) x.1)) (sym t.parts)
    (meant_agrees steps limit sum agreed_max t.encoding x.1 (λ n. ih n x.1) (stateless_field x.0)
    (line_field (no_table agreed_max) 0 x.0) (line_agrees agreed_max x.0))

lines_agree : (steps limit sum : ℕ) (agreed_max : Option ℕ) (bytes : List ℕ)
    → LinesAgree bytes (stateless_at steps limit sum bytes) (fields_at steps (no_table agreed_max) 0 bytes)
unfolding stateless_at fields_at
lines_agree zero limit sum agreed_max [] = refl
lines_agree zero limit sum agreed_max (b ∷ bytes) = refl
lines_agree (suc steps) limit sum agreed_max [] = refl
lines_agree (suc steps) limit sum agreed_max (b ∷ bytes) = pick (cases_lt b 32)
    (λ n x. lines_agree steps limit n agreed_max x)
  where
    pick : (b < 32) ⊎ (32 ≤ b)
        → ((n : ℕ) (x : List ℕ)
        → LinesAgree x (stateless_at steps limit n x) (fields_at steps (no_table agreed_max) 0 x))
        → LinesAgree (b ∷ bytes) (stateless_at (suc steps) limit sum (b ∷ bytes))
        (fields_at (suc steps) (no_table agreed_max) 0 (b ∷ bytes))
    pick (inl less) ih =
        subst (λ (x : Result (List Field) StatelessFault). LinesAgree (b ∷ bytes) x
        (fields_at (suc steps) (no_table agreed_max) 0 (b ∷ bytes))) (sym (low_is steps limit sum b bytes less))
        (subst (LinesAgree (b ∷ bytes) (Err NamesEntry)) (sym (fields_are steps (no_table agreed_max) 0 b bytes))
        (low_agrees steps agreed_max b bytes less (form_at line_form (b ∷ bytes)) refl))
    pick (inr high) ih =
        subst (λ (x : Result (List Field) StatelessFault). LinesAgree (b ∷ bytes) x
        (fields_at (suc steps) (no_table agreed_max) 0 (b ∷ bytes))) (sym (high_is steps limit sum b bytes high))
        (subst (LinesAgree (b ∷ bytes) (next steps limit sum (form_at line_form (b ∷ bytes))))
        (sym (fields_are steps (no_table agreed_max) 0 b bytes))
        (high_agrees steps limit sum agreed_max (b ∷ bytes) ih (form_at line_form (b ∷ bytes)) refl))

-- ---- and where there are fields under the table

ok_lines : (steps : ℕ) (w : Window) (base : ℕ) (q : Result Field Fault) (rest : List ℕ) (fs : List Field)
    → behind_field steps w base q rest ≡ Ok fs
    → (f : Field) × (gs : List Field) × (q ≡ Ok f) × (fields_at steps w base rest ≡ Ok gs) × (fs ≡ f ∷ gs)
unfolding behind_field
ok_lines steps w base (Err e) rest fs h = absurd cc
ok_lines steps w base (Ok f) rest fs h = pick (fields_at steps w base rest) refl h
  where
    pick : (r : Result (List Field) Fault) → fields_at steps w base rest ≡ r
        → (r >>= λ gs. (let x : Result (List Field) Fault = Ok (f ∷ gs) in x)) ≡ Ok fs
        → (g : Field) × (gs : List Field) × ((let x : Result Field Fault = Ok f in x) ≡ Ok g)
        × (fields_at steps w base rest ≡ Ok gs) × (fs ≡ g ∷ gs)
    pick (Err e) q k = absurd cc
    pick (Ok gs) q k = (f, gs, refl, q, cc)

no_line : (steps : ℕ) (w : Window) (base : ℕ) (e : FormFault) (fs : List Field)
    → behind_line steps w base (Err e) ≡ Ok fs → ⊥
unfolding behind_line
no_line steps w base e fs h = absurd cc

not_low : {b : ℕ} → (b < 32) ⊎ (32 ≤ b) → (b < 32 → ⊥) → 32 ≤ b
not_low (inl less) never = absurd (never less)
not_low (inr high) never = high

no_fields_refused : (e : Fault) (fs : List Field) (is_dynamic : Bool) → Faulty e ≡ Fields fs is_dynamic → ⊥
no_fields_refused e fs is_dynamic h = absurd cc

behind_line_ok : (steps : ℕ) (w : Window) (base : ℕ) (l : Line) (rest : List ℕ)
    → behind_line steps w base (Ok (l, rest)) ≡ behind_field steps w base (line_field w base l) rest
unfolding behind_line
behind_line_ok steps w base l rest = refl

-- the fields up to the limit, one at a time
up_to_first : (steps limit sum : ℕ) (f : Field) (gs : List Field) (rest : List ℕ)
    → stateless_at steps limit (sum + field_size f) rest ≡ up_to_limit limit (sum + field_size f) gs
    → limited steps limit sum f rest ≡ up_to_limit limit sum (f ∷ gs)
up_to_first steps limit sum f gs rest e = pick (cases_lt limit (saturated_size (sum + field_size f)))
  where
    pick : (limit < saturated_size (sum + field_size f)) ⊎ (saturated_size (sum + field_size f) ≤ limit)
        → limited steps limit sum f rest ≡ up_to_limit limit sum (f ∷ gs)
    pick (inl long) =
        limited_long steps limit sum f rest long ∙ rw (lt-ltb limit (saturated_size (sum + field_size f)) long) refl
    pick (inr fits) =
        limited_ok steps limit sum f rest fits ∙ ap (before f) e
        ∙ rw (le-ltb limit (saturated_size (sum + field_size f)) fits) refl

lines_up_to : (steps limit sum : ℕ) (agreed_max : Option ℕ) (bytes : List ℕ) (fs : List Field) → length bytes ≤ steps
    → fields_at steps (no_table agreed_max) 0 bytes ≡ Ok fs → stateless_at steps limit sum bytes
    ≡ up_to_limit limit sum fs
lines_up_to steps limit sum agreed_max [] fs h e =
    let none : fs ≡ [] = ok_is fs [] (sym e ∙ no_bytes steps (no_table agreed_max) 0) in
    none_alone steps limit sum ∙ ap (up_to_limit limit sum) (sym none)
lines_up_to zero limit sum agreed_max (b ∷ bytes) fs h e = absurd (omega arith)
lines_up_to (suc steps) limit sum agreed_max (b ∷ bytes) fs h e =
    by_form (λ n rest gs short q. lines_up_to steps limit n agreed_max rest gs short q) (form_at line_form (b ∷ bytes))
    refl (sym (fields_are steps (no_table agreed_max) 0 b bytes) ∙ e)
  where
    by_form : ((n : ℕ) (rest : List ℕ) (gs : List Field) → length rest ≤ steps
        → fields_at steps (no_table agreed_max) 0 rest ≡ Ok gs → stateless_at steps limit n rest
        ≡ up_to_limit limit n gs)
        → (r : Result (Line × List ℕ) FormFault) → form_at line_form (b ∷ bytes) ≡ r
        → behind_line steps (no_table agreed_max) 0 r ≡ Ok fs
        → stateless_at (suc steps) limit sum (b ∷ bytes) ≡ up_to_limit limit sum fs
    by_form ih (Err x) q k = absurd (no_line steps (no_table agreed_max) 0 x fs k)
    by_form ih (Ok x) q k =
        let parts =
        ok_lines steps (no_table agreed_max) 0 (line_field (no_table agreed_max) 0 x.0) x.1 fs
        (sym (behind_line_ok steps (no_table agreed_max) 0 x.0 x.1) ∙ k) in
        let alone : stateless_field x.0 ≡ Ok parts.0 =
        line_alone (stateless_field x.0) (line_field (no_table agreed_max) 0 x.0) parts.0
        (line_agrees agreed_max x.0) parts.2
        in
        let t = form_takes line_form (b ∷ bytes) x.0 x.1 q in
        let short : length x.1 ≤ steps =
        omega (arith, h, ap length t.parts, length-append t.encoding x.1, ap length t.spells.begins) in
        let high : 32 ≤ b =
        not_low (cases_lt b 32) (λ less. no_entry_alone x.0 parts.0 alone (low_alone b bytes x.0 x.1 less q)) in
        high_is steps limit sum b bytes high ∙ ap (next steps limit sum) q ∙ next_ok steps limit sum x.0 x.1
        ∙ ap (λ r. meant steps limit sum r x.1) alone ∙ meant_ok steps limit sum parts.0 x.1
        ∙ up_to_first steps limit sum parts.0 parts.1 x.1 (ih (sum + field_size parts.0) x.1 parts.1 short parts.3)
        ∙ ap (up_to_limit limit sum) (sym parts.4)

-- ---- whole sections

-- under the table nothing is required, whatever the prefix says
nothing_required : (agreed_max : Option ℕ) (p : Prefix) → maximum_capacity agreed_max 0 ≡ 0
    → read_prefix 0 (maximum_capacity agreed_max 0) p ≡ Ok (0, 0)
unfolding read_prefix read_required
nothing_required agreed_max p none = rw none refl

-- what the bytes behind a prefix give
read_behind : (agreed_max : Option ℕ) (bytes rest : List ℕ) (p : Prefix) → maximum_capacity agreed_max 0 ≡ 0
    → prefix_at bytes ≡ Ok (p, rest)
    → reading_of_bytes (no_table agreed_max) bytes
    ≡ reading_of_fields (fields_in_bytes (no_table agreed_max) 0 rest) false
unfolding reading_of_bytes
read_behind agreed_max bytes rest p none q =
    ap (section_behind (no_table agreed_max)) q
    ∙ ap (bytes_behind (no_table agreed_max) rest) (nothing_required agreed_max p none)

read_refused : (agreed_max : Option ℕ) (bytes : List ℕ) (e : FormFault) → prefix_at bytes ≡ Err e
    → reading_of_bytes (no_table agreed_max) bytes ≡ Faulty (BadForm e)
unfolding reading_of_bytes
read_refused agreed_max bytes e q = ap (section_behind (no_table agreed_max)) q

section_agrees : (head rest : List ℕ) (r : Result (List Field) StatelessFault) (q : Result (List Field) Fault)
    → LinesAgree rest r q → AgreesWithoutTable (head ++ rest) r (reading_of_fields q false)
section_agrees head rest (Ok fs) q k = ap (λ x. reading_of_fields x false) k
section_agrees head rest (Err (BadSection e)) q k = ap (λ x. reading_of_fields x false) k
section_agrees head rest (Err NamesEntry) q k =
    (k.0, ap (λ x. reading_of_fields x false) k.1, names_behind head rest k.0 k.2)
section_agrees head rest (Err (TooLong sum)) (Ok fs) k = λ n e. absurd cc
section_agrees head rest (Err (TooLong sum)) (Err x) k = λ n e. absurd cc

fields_answered : (q : Result (List Field) Fault) (fs : List Field) (is_dynamic : Bool)
    → reading_of_fields q false ≡ Fields fs is_dynamic → (is_dynamic ≡ false) × (q ≡ Ok fs)
fields_answered (Ok gs) fs is_dynamic e = (cc, cc)
fields_answered (Err x) fs is_dynamic e = absurd cc

pub without_table : StatelessIsWithoutTable
without_table agreed_max none limit bytes = pick (prefix_at bytes) refl
  where
    pick : (r : Result (Prefix × List ℕ) FormFault) → prefix_at bytes ≡ r
        → AgreesWithoutTable bytes (stateless_reading limit bytes) (reading_of_bytes (no_table agreed_max) bytes)
        × ((fs : List Field) (is_dynamic : Bool) → reading_of_bytes (no_table agreed_max) bytes ≡ Fields fs is_dynamic
        → (is_dynamic ≡ false) × (stateless_reading limit bytes ≡ up_to_limit limit 0 fs))
    pick (Err e) q =
        let alone : stateless_reading limit bytes ≡ Err (BadSection (BadForm e)) =
        section_is limit bytes ∙ ap (behind_prefix limit) q ∙ prefix_bad limit e in (
          subst (λ (r : Result (List Field) StatelessFault). AgreesWithoutTable bytes r
              (reading_of_bytes (no_table agreed_max) bytes)) (sym alone) (read_refused agreed_max bytes e q),
          λ fs is_dynamic h. absurd
              (no_fields_refused (BadForm e) fs is_dynamic (sym (read_refused agreed_max bytes e q)
              ∙ h)),
        )
    pick (Ok x) q =
        let alone : stateless_reading limit bytes ≡ stateless_at (length x.1) limit 0 x.1 =
        section_is limit bytes ∙ ap (behind_prefix limit) q ∙ prefix_ok limit x.0 x.1 in
        let under = read_behind agreed_max bytes x.1 x.0 none q in
        let t = prefix_takes bytes x.0 x.1 q in
        let read = reading_of_fields (fields_in_bytes (no_table agreed_max) 0 x.1) false in
        let whole : AgreesWithoutTable bytes (stateless_at (length x.1) limit 0 x.1) read =
        subst (λ (b : List ℕ). AgreesWithoutTable b (stateless_at (length x.1) limit 0 x.1) read) (sym t.parts)
        (section_agrees t.encoding x.1 (stateless_at (length x.1) limit 0 x.1)
        (fields_in_bytes (no_table agreed_max) 0 x.1)
        (lines_agree (length x.1) limit 0 agreed_max x.1)) in (
          subst (λ (r : Result (List Field) StatelessFault). AgreesWithoutTable bytes r
              (reading_of_bytes (no_table agreed_max) bytes)) (sym alone)
              (subst (AgreesWithoutTable bytes (stateless_at (length x.1) limit 0 x.1)) (sym under) whole),
          λ fs is_dynamic h.
              let got = fields_answered (fields_in_bytes (no_table agreed_max) 0 x.1) fs is_dynamic (sym under ∙ h) in
              (got.0, alone ∙ lines_up_to (length x.1) limit 0 agreed_max x.1 fs (omega arith) got.1),
        )
