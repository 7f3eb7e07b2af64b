-- Each step of a section that comes in pieces gives a part of the reading of the whole.
use Rattle.std.proofs.Common.{◌≡◌, ℕ, zero, suc, ◌+◌, ◌-◌, ◌<◌, ◌≤◌, Bool, true, false, cond, List, [], ◌∷◌, ◌++◌, length}
use Rattle.std.proofs.Common.{drop, Option, None, Some, Result, Ok, Err, refl, sym, ap, ◌∙◌, arith, append_assoc}
use Rattle.std.proofs.Common.{length-append, append-nil, subst, ◌⊎◌, inl, inr}
use Rattle.std.specs.Prelude.{nat_lt, nat_le, nat_eq, if◌then◌else◌}
use Rattle.std.proofs.lemmas.Bool.{ltb-false, lt-ltb, le-ltb, le-leb, cases_lt}
use Rattle.std.proofs.lemmas.List.{drop-append-le, length-drop, drop_at}
use Rattle.qpack_spec.specs.Bytes.{◌>>=◌}
use Rattle.qpack_spec.specs.Field.{Field, FieldLine, field_size}
use Rattle.qpack_spec.specs.Form.{FormFault, form_at, or_bad_integer}
use Rattle.qpack_spec.specs.Integer.{integer_at}
use Rattle.qpack_spec.specs.Prefix.{Prefix, prefix_at}
use Rattle.qpack_spec.specs.Reading.{BadForm}
use Rattle.qpack_spec.specs.Line.{Line, line_form}
use Rattle.qpack_spec.specs.Stateless.{saturated_size}
use Rattle.qpack_spec.specs.StrictReading.{LineFault, SectionFault, InPrefix, LinesUnder, or_meaningless, or_in_line}
use Rattle.qpack_spec.specs.StrictReading.{is_never_indexed, strict_field, within_size, strict_line_at, strict_lines_at}
use Rattle.qpack_spec.specs.StrictReading.{lines_behind}
use Rattle.qpack_spec.specs.StrictReading.{StrictReading, Blocked, Refused, strict_section_behind}
use Rattle.qpack_spec.specs.BlockReading.{or_bad_form}
use Rattle.qpack_spec.specs.Window.{Window, window_insert_count}
use Rattle.qpack_spec.proofs.Forms.{index_takes}
use Rattle.qpack_spec.proofs.Results.{bind_ok, ok_is, ok_pair}
use Rattle.qpack_decoding.specs.Missing.{line_missing, prefix_missing}
use Rattle.qpack_decoding.specs.PieceLaws.{reading_behind, reading_on, with_field, KeepsReading, PiecesKeepTheReading}
use Rattle.qpack_decoding.specs.Pieces.{ReaderView, IsPlaced, behind_line, lines_under, Next, More, Opens, Stays}
use Rattle.qpack_decoding.specs.Pieces.{Gives, Over, Fails, goes_on, line_at, line_says, prefix_says, next_prefix, next_line}
use Rattle.qpack_decoding.specs.Pieces.{next_behind, most_read}
use Rattle.qpack_decoding.specs.SectionPrefixes.{strict_numbers, with_length, prefix_behind, strict_prefix}
use Rattle.qpack_decoding.specs.declared.section.SectionPrefix.{SectionPrefix}
use Rattle.qpack_decoding.proofs.MissingCode.{nothing_is_prefix}
use Rattle.qpack_decoding.proofs.MissingParts.{followed, line_followed, line_takes, prefix_followed, prefix_takes, with_delta}
use Rattle.qpack_decoding.proofs.PieceParts.{followed_none, next_stays, next_lines, next_within}
use Rattle.qpack_decoding.proofs.SectionParts.{after_numbers, behind_numbers}

-- ---- lines, with more steps and another sum

-- two sums that saturate alike
same_within : (limit a b : ℕ) (f : Field) → saturated_size a ≡ saturated_size b
    → within_size limit a f ≡ within_size limit b f
unfolding within_size
same_within limit a b f same =
    let sums : saturated_size (a + field_size f) ≡ saturated_size (b + field_size f) = omega (arith, same) in
    rw sums refl

same_line_sum : (u : LinesUnder) (a b first : ℕ) (more : List ℕ) → saturated_size a ≡ saturated_size b
    → strict_line_at u a first more ≡ strict_line_at u b first more
unfolding strict_line_at
same_line_sum u a b first more same = go (or_meaningless (or_bad_form (form_at line_form (first ∷ more))))
  where
    given : (rest : List ℕ) (r : Result Field LineFault)
        → (r >>= λ f. within_size u.limit a f >>= λ g. (let x : Result (FieldLine × List ℕ) LineFault =
        Ok (record { field = g; never_indexed = is_never_indexed first }, rest) in x))
        ≡ (r >>= λ f. within_size u.limit b f >>= λ g. Ok (record { field = g; never_indexed = is_never_indexed first }, rest))
    given rest (Ok f) = rw (same_within u.limit a b f same) refl
    given rest (Err e) = refl

    go : (r : Result (Line × List ℕ) LineFault)
        → (r >>= λ r. strict_field u r.0 >>= λ f. within_size u.limit a f
        >>= λ g. (let x : Result (FieldLine × List ℕ) LineFault =
        Ok (record { field = g; never_indexed = is_never_indexed first }, r.1) in x))
        ≡ (r >>= λ r. strict_field u r.0 >>= λ f. within_size u.limit b f
        >>= λ g. Ok (record { field = g; never_indexed = is_never_indexed first }, r.1))
    go (Ok r) = given r.1 (strict_field u r.0)
    go (Err e) = refl

-- the lines behind one
abbrev pub after : ℕ → LinesUnder → ℕ → ℕ → FieldLine × List ℕ → Result (List FieldLine) SectionFault
after k u number sum r = strict_lines_at k u number (sum + field_size r.0.field) r.1 >>= λ fs. Ok (r.0 ∷ fs)

turn : (k : ℕ) (u : LinesUnder) (number sum first : ℕ) (more : List ℕ)
    → strict_lines_at (suc k) u number sum (first ∷ more)
    ≡ (or_in_line (suc number) (u.section - length (first ∷ more)) (strict_line_at u sum first more)
    >>= after k u (suc number) sum)
unfolding strict_lines_at
turn k u number sum first more = refl

no_lines : (k : ℕ) (u : LinesUnder) (number sum : ℕ) → strict_lines_at k u number sum [] ≡ Ok []
unfolding strict_lines_at
no_lines k u number sum = refl

line_shorter : (u : LinesUnder) (sum first : ℕ) (more left : List ℕ) (f : FieldLine)
    → strict_line_at u sum first more ≡ Ok (f, left) → length left < length (first ∷ more)
unfolding line_at line_missing
line_shorter u sum first more left f e = line_takes u sum [] (first ∷ more) left f (omega arith) e

-- after a line, if what is left is read alike
same_after : (k j : ℕ) (u : LinesUnder) (number offset a b : ℕ) (read : Result (FieldLine × List ℕ) LineFault)
    → ((f : FieldLine) (left : List ℕ) → read ≡ Ok (f, left)
    → strict_lines_at k u number (a + field_size f.field) left ≡ strict_lines_at j u number (b + field_size f.field) left)
    → (or_in_line number offset read >>= after k u number a) ≡ (or_in_line number offset read >>= after j u number b)
same_after k j u number offset a b (Ok r) h =
    ap (λ (s : Result (List FieldLine) SectionFault). s >>= λ fs. Ok (r.0 ∷ fs)) (h r.0 r.1 refl)
same_after k j u number offset a b (Err e) h = refl

-- enough steps, and sums that saturate alike
pub lines_same : (k j : ℕ) (u : LinesUnder) (number a b : ℕ) (bytes : List ℕ) → length bytes ≤ k → length bytes ≤ j
    → saturated_size a ≡ saturated_size b
    → strict_lines_at k u number a bytes ≡ strict_lines_at j u number b bytes
lines_same k j u number a b [] p q same = no_lines k u number a ∙ sym (no_lines j u number b)
lines_same zero j u number a b (x ∷ bytes) p q same = absurd (omega (arith, p))
lines_same (suc k) zero u number a b (x ∷ bytes) p q same = absurd (omega (arith, q))
lines_same (suc k) (suc j) u number a b (x ∷ bytes) p q same =
    turn k u number a x bytes
    ∙ ap (λ r. or_in_line (suc number) (u.section - length (x ∷ bytes)) r >>= after k u (suc number) a)
    (same_line_sum u a b x bytes same)
    ∙ same_after k j u (suc number) (u.section - length (x ∷ bytes)) a b (strict_line_at u b x bytes)
    (λ f left e. let shorter = line_shorter u b x bytes left f e in
    lines_same k j u (suc number) (a + field_size f.field) (b + field_size f.field) left
    (omega (arith, shorter, p)) (omega (arith, shorter, q)) (omega (arith, same)))
    ∙ sym (turn j u number b x bytes)

-- ---- what comes next, whatever follows

-- the reading of all bytes and those that follow, if nothing is whole
abbrev pub Keeps : Option SectionPrefix → Window → ℕ → ReaderView → List ℕ → List ℕ → StrictReading → Next → Type 0
Keeps o w limit r all more read More = read ≡ reading_behind w limit r o (all ++ more)
Keeps o w limit r all more read next = KeepsReading w limit r all more read next

pub same_behind : (o : Option SectionPrefix) (w : Window) (limit : ℕ) (r : ReaderView) (all bytes : List ℕ)
    → reading_behind w limit (record r { pending = all }) o bytes ≡ reading_behind w limit r o bytes
same_behind None w limit r all bytes = refl
same_behind (Some p) w limit r all bytes = refl

keeps_is : (o : Option SectionPrefix) (w : Window) (limit : ℕ) (r : ReaderView) (all more : List ℕ)
    (read : StrictReading) (next : Next) → r.prefix ≡ o → Keeps o w limit r all more read next
    → KeepsReading w limit r all more read next
keeps_is o w limit r all more read More is k =
    k ∙ ap (λ (x : Option SectionPrefix). reading_behind w limit r x (all ++ more)) (sym is)
    ∙ sym (same_behind r.prefix w limit r all (all ++ more))
keeps_is o w limit r all more read (Opens p) is k = k
keeps_is o w limit r all more read (Stays required) is k = k
keeps_is o w limit r all more read (Gives f left) is k = k
keeps_is o w limit r all more read (Over required) is k = k
keeps_is o w limit r all more read (Fails fault) is k = k

-- what is read needs nothing that follows
abbrev pub IsWholeBefore : ℕ → List ℕ → Type 0
IsWholeBefore missing more = (more ≡ []) ⊎ (missing ≡ 0)

whole_before : (last : Bool) (missing : ℕ) (more : List ℕ) → (last ≡ true → more ≡ []) → goes_on last missing ≡ false
    → IsWholeBefore missing more
whole_before true missing more ends stops = inl (ends refl)
whole_before false missing more ends stops = inr (omega (arith, ltb-false 0 missing stops))

-- ---- after a line

-- the fields behind one
field_first : (required : ℕ) (f : FieldLine) (read : Result (List FieldLine) SectionFault)
    → lines_behind required (read >>= λ fs. Ok (f ∷ fs)) ≡ with_field f (lines_behind required read)
field_first required f (Ok fs) = refl
field_first required f (Err e) = refl

followed_whole : (u : LinesUnder) (sum : ℕ) (all more : List ℕ) → IsWholeBefore (line_missing all) more
    → line_at u sum (all ++ more) ≡ followed more (line_at u sum all)
followed_whole u sum all more (inl none) =
    ap (λ (x : List ℕ). line_at u sum (all ++ x)) none ∙ ap (line_at u sum) (append-nil all)
    ∙ followed_none (line_at u sum all) ∙ ap (λ (x : List ℕ). followed x (line_at u sum all)) (sym none)
followed_whole u sum all more (inr whole) = line_followed u sum all more whole

section_free : (w : Window) (limit section : ℕ) (p : SectionPrefix) (sum first : ℕ) (more : List ℕ)
    → strict_line_at (lines_under w limit p section) sum first more ≡ line_at (lines_under w limit p 0) sum (first ∷ more)
unfolding line_at strict_line_at strict_field
section_free w limit section p sum first more = refl

-- the first line of bytes
by_line : (w : Window) (limit : ℕ) (r : ReaderView) (p : SectionPrefix) (b : ℕ) (bytes : List ℕ)
    (read : Result (FieldLine × List ℕ) LineFault) → p.required ≤ window_insert_count w
    → line_at (lines_under w limit p 0) r.sum (b ∷ bytes) ≡ read
    → reading_behind w limit r (Some p) (b ∷ bytes)
    ≡ lines_behind p.required (or_in_line (suc r.lines) r.offset read
    >>= after (length bytes) (lines_under w limit p (r.offset + length (b ∷ bytes))) (suc r.lines) r.sum)
by_line w limit r p b bytes read there e =
    let u = lines_under w limit p (r.offset + length (b ∷ bytes)) in
    let place : r.offset + length (b ∷ bytes) - length (b ∷ bytes) ≡ r.offset = omega arith in
    rw (le-ltb (window_insert_count w) p.required there) (ap (lines_behind p.required)
    (turn (length bytes) u r.lines r.sum b bytes
    ∙ ap (λ x. or_in_line (suc r.lines) (r.offset + length (b ∷ bytes) - length (b ∷ bytes)) x
    >>= after (length bytes) u (suc r.lines) r.sum)
    (section_free w limit (r.offset + length (b ∷ bytes)) p r.sum b bytes ∙ e)
    ∙ ap (λ (n : ℕ). or_in_line (suc r.lines) n read >>= after (length bytes) u (suc r.lines) r.sum) place))

pub behind_read : (w : Window) (limit : ℕ) (r : ReaderView) (p : SectionPrefix) (f : FieldLine) (len : ℕ) (left : List ℕ)
    → p.required ≤ window_insert_count w
    → reading_behind w limit (behind_line len f.field r) (Some p) left
    ≡ lines_behind p.required (strict_lines_at (length left) (lines_under w limit p (r.offset + len + length left))
    (suc r.lines) (saturated_size (r.sum + field_size f.field)) left)
behind_read w limit r p f len left there = rw (le-ltb (window_insert_count w) p.required there) refl

pub none_waits : 0 < line_missing []
unfolding line_missing
none_waits = omega arith

-- a field that was found
found_keeps : (w : Window) (limit : ℕ) (r : ReaderView) (p : SectionPrefix) (b : ℕ) (rest more left : List ℕ)
    (f : FieldLine) → r.prefix ≡ Some p → p.required ≤ window_insert_count w
    → line_at (lines_under w limit p 0) r.sum (b ∷ rest) ≡ Ok (f, left)
    → line_at (lines_under w limit p 0) r.sum (b ∷ rest ++ more) ≡ Ok (f, left ++ more)
    → reading_behind w limit r (Some p) (b ∷ rest ++ more)
    ≡ with_field f (reading_on w limit (behind_line (length (b ∷ rest) - length left) f.field r) (left ++ more))
found_keeps w limit r p b rest more left f known there e all =
    let shorter = line_takes (lines_under w limit p 0) r.sum [] (b ∷ rest) left f none_waits e in
    let len = length (b ∷ rest) - length left in
    let whole = length (b ∷ rest ++ more) in
    let u = lines_under w limit p (r.offset + whole) in
    let sizes = length-append (b ∷ rest) more in
    let lefts = length-append left more in
    let longer = length-append rest more in
    let section : r.offset + whole ≡ r.offset + len + length (left ++ more) = omega (arith, shorter, sizes, lefts) in
    by_line w limit r p b (rest ++ more) (Ok (f, left ++ more)) there all
    ∙ field_first p.required f
    (strict_lines_at (length (rest ++ more)) u (suc r.lines) (r.sum + field_size f.field) (left ++ more))
    ∙ ap (λ read. with_field f (lines_behind p.required read))
    (lines_same (length (rest ++ more)) (length (left ++ more)) u (suc r.lines) (r.sum + field_size f.field)
    (saturated_size (r.sum + field_size f.field)) (left ++ more) (omega (arith, shorter, lefts, longer)) (omega arith)
    (omega arith)
    ∙ ap (λ (n : ℕ). strict_lines_at (length (left ++ more)) (lines_under w limit p n) (suc r.lines)
    (saturated_size (r.sum + field_size f.field)) (left ++ more)) section)
    ∙ ap (with_field f) (sym (behind_read w limit r p f len (left ++ more) there)
    ∙ ap (λ (o : Option SectionPrefix). reading_behind w limit (behind_line len f.field r) o (left ++ more)) (sym known))

lines_keep : (w : Window) (limit : ℕ) (last : Bool) (r : ReaderView) (p : SectionPrefix) (all more : List ℕ)
    → r.prefix ≡ Some p → p.required ≤ window_insert_count w → (last ≡ true → more ≡ [])
    → Keeps (Some p) w limit r all more (reading_behind w limit r (Some p) (all ++ more))
    (next_line (lines_under w limit p 0) last r all)
lines_keep w limit true r p [] more known there ends =
    ap (reading_behind w limit r (Some p)) (ends refl)
    ∙ rw (le-ltb (window_insert_count w) p.required there) (ap (lines_behind p.required)
    (no_lines 0 (lines_under w limit p (r.offset + 0)) r.lines r.sum))
lines_keep w limit false r p [] more known there ends = refl
lines_keep w limit last r p (b ∷ rest) more known there ends = pick (goes_on last (line_missing (b ∷ rest))) refl
  where
    found : (read : Result (FieldLine × List ℕ) LineFault)
        → line_at (lines_under w limit p 0) r.sum (b ∷ rest) ≡ read → IsWholeBefore (line_missing (b ∷ rest)) more
        → Keeps (Some p) w limit r (b ∷ rest) more (reading_behind w limit r (Some p) (b ∷ rest ++ more))
        (line_says (suc r.lines) r.offset read)
    found (Err fault) e k =
        by_line w limit r p b (rest ++ more) (Err fault) there
        (followed_whole (lines_under w limit p 0) r.sum (b ∷ rest) more k ∙ ap (followed more) e)
    found (Ok x) e k =
        found_keeps w limit r p b rest more x.1 x.0 known there e
        (followed_whole (lines_under w limit p 0) r.sum (b ∷ rest) more k ∙ ap (followed more) e)

    pick : (t : Bool) → goes_on last (line_missing (b ∷ rest)) ≡ t
        → Keeps (Some p) w limit r (b ∷ rest) more (reading_behind w limit r (Some p) (b ∷ rest ++ more))
        (cond t More (line_says (suc r.lines) r.offset (line_at (lines_under w limit p 0) r.sum (b ∷ rest))))
    pick true e = refl
    pick false e =
        found (line_at (lines_under w limit p 0) r.sum (b ∷ rest)) refl (whole_before last (line_missing (b ∷ rest)) more ends e)

-- ---- after a prefix

followed_prefix : (w : Window) (all more : List ℕ) → IsWholeBefore (prefix_missing all) more
    → strict_prefix w (all ++ more) ≡ strict_prefix w all
followed_prefix w all more (inl none) =
    ap (λ (x : List ℕ). strict_prefix w (all ++ x)) none ∙ ap (strict_prefix w) (append-nil all)
followed_prefix w all more (inr whole) = prefix_followed w all more whole

-- the reading of a section whose prefix is refused
prefix_refuses : (w : Window) (limit : ℕ) (bytes : List ℕ) (fault : SectionFault) → strict_prefix w bytes ≡ Err fault
    → strict_section_behind w limit (length bytes) (prefix_at bytes) ≡ Refused fault
unfolding strict_prefix
prefix_refuses w limit bytes fault e = go (prefix_at bytes) e
  where
    numbers : (len : ℕ) (n : Result (ℕ × ℕ) SectionFault) (rest : List ℕ) → with_length len n ≡ Err fault
        → after_numbers w limit (length bytes) rest n ≡ Refused fault
    numbers len (Ok x) rest q = absurd cc
    numbers len (Err f) rest q = let same : f ≡ fault = cc in ap Refused same

    go : (r : Result (Prefix × List ℕ) FormFault) → prefix_behind w (length bytes) r ≡ Err fault
        → strict_section_behind w limit (length bytes) r ≡ Refused fault
    go (Err f) q = let same : InPrefix (BadForm f) ≡ fault = cc in ap Refused same
    go (Ok x) q =
        behind_numbers w limit (length bytes) x.0 x.1
        ∙ numbers (length bytes - length x.1) (strict_numbers w x.0) x.1 q

-- what is left after a prefix
prefix_left : (bytes : List ℕ) (p : Prefix) (rest : List ℕ) → prefix_at bytes ≡ Ok (p, rest)
    → drop (length bytes - length rest) bytes ≡ rest
unfolding prefix_at
prefix_left bytes p rest e =
    let c = bind_ok (or_bad_integer (integer_at 8 bytes)) (λ c. with_delta c (integer_at 7 c.2)) (p, rest) e in
    let d = bind_ok (or_bad_integer (integer_at 7 c.0.2))
    (λ d. Ok (record { count = c.0.1; sign = nat_eq d.0 1; delta = d.1 }, d.2)) (p, rest) c.2 in
    let t = index_takes 8 bytes c.0 c.1 in
    let u = index_takes 7 c.0.2 d.0 d.1 in
    let left : d.0.2 ≡ rest =
    (ok_pair (let q : Prefix = record { count = c.0.1; sign = nat_eq d.0.0 1; delta = d.0.1 } in q) p d.0.2 rest d.2).1 in
    let cut : bytes ≡ (t.encoding ++ u.encoding) ++ rest =
    t.parts ∙ ap (λ (l : List ℕ). t.encoding ++ l) u.parts ∙ sym (append_assoc t.encoding u.encoding d.0.2)
    ∙ ap (λ (l : List ℕ). (t.encoding ++ u.encoding) ++ l) left in
    ap (drop (length bytes - length rest)) cut
    ∙ drop_at (t.encoding ++ u.encoding) rest (length bytes - length rest)
    (omega (arith, ap length cut, length-append (t.encoding ++ u.encoding) rest))

-- and of one whose prefix says this
prefix_reads : (w : Window) (limit : ℕ) (bytes : List ℕ) (p : ℕ × ℕ × ℕ) → strict_prefix w bytes ≡ Ok p
    → strict_section_behind w limit (length bytes) (prefix_at bytes)
    ≡ after_numbers w limit (length bytes) (drop p.2 bytes) (Ok (p.0, p.1))
unfolding strict_prefix
prefix_reads w limit bytes p e = go (prefix_at bytes) refl e
  where
    numbers : (len : ℕ) (n : Result (ℕ × ℕ) SectionFault) → with_length len n ≡ Ok p
        → (n ≡ Ok (p.0, p.1)) × (p.2 ≡ len)
    numbers len (Ok x) q =
        let same : (let y : ℕ × ℕ × ℕ = (x.0, x.1, len) in y) ≡ p = ok_is (x.0, x.1, len) p q in (
          ap (λ (y : ℕ × ℕ × ℕ). let z : Result (ℕ × ℕ) SectionFault = Ok (y.0, y.1) in z) same,
          sym (ap (λ (y : ℕ × ℕ × ℕ). y.2) same),
        )
    numbers len (Err f) q = absurd cc

    go : (r : Result (Prefix × List ℕ) FormFault) → prefix_at bytes ≡ r → prefix_behind w (length bytes) r ≡ Ok p
        → strict_section_behind w limit (length bytes) r
        ≡ after_numbers w limit (length bytes) (drop p.2 bytes) (Ok (p.0, p.1))
    go (Err f) is q = absurd cc
    go (Ok x) is q =
        let n = numbers (length bytes - length x.1) (strict_numbers w x.0) q in
        behind_numbers w limit (length bytes) x.0 x.1
        ∙ ap (after_numbers w limit (length bytes) x.1) n.0
        ∙ ap (λ (l : List ℕ). after_numbers w limit (length bytes) l (Ok (p.0, p.1)))
        (sym (ap (λ (m : ℕ). drop m bytes) n.1 ∙ prefix_left bytes x.0 x.1 is))

-- the reading of the lines after a prefix, from this number of lines and this sum on
abbrev pub numbered : Window → ℕ → ℕ × ℕ × ℕ → List ℕ → ℕ → ℕ → StrictReading
numbered w limit p left lines sum =
    if nat_lt (window_insert_count w) p.0 then Blocked p.0 else lines_behind p.0 (strict_lines_at (length left)
    (record { window = w; required = p.0; base = p.1; limit = limit; section = p.2 + length left }) lines sum left)

pub no_prefix_waits : 0 < prefix_missing []
no_prefix_waits = nothing_is_prefix [] refl

prefix_keeps : (w : Window) (limit : ℕ) (last : Bool) (r : ReaderView) (all more : List ℕ) → r.lines ≡ 0 → r.sum ≡ 0
    → (last ≡ true → more ≡ [])
    → Keeps None w limit r all more (reading_behind w limit r None (all ++ more)) (next_prefix w last all)
prefix_keeps w limit last r all more lines sum ends = pick (goes_on last (prefix_missing all)) refl
  where
    said : (x : Result (ℕ × ℕ × ℕ) SectionFault) → strict_prefix w all ≡ x → IsWholeBefore (prefix_missing all) more
        → Keeps None w limit r all more (reading_behind w limit r None (all ++ more)) (prefix_says x)
    said (Err fault) e k = prefix_refuses w limit (all ++ more) fault (followed_prefix w all more k ∙ e)
    said (Ok p) e k =
        let takes = prefix_takes w [] all p no_prefix_waits e in
        let left = drop p.2 all ++ more in
        let there : drop p.2 (all ++ more) ≡ left = drop-append-le p.2 all more (omega (arith, takes.1)) in
        let section : length (all ++ more) ≡ p.2 + length left =
        omega (arith, takes.1, length-append all more, length-append (drop p.2 all) more, length-drop p.2 all) in
        prefix_reads w limit (all ++ more) p (followed_prefix w all more k ∙ e)
        ∙ ap (λ (l : List ℕ). after_numbers w limit (length (all ++ more)) l (Ok (p.0, p.1))) there
        ∙ ap (λ (n : ℕ). after_numbers w limit n left (Ok (p.0, p.1))) section
        ∙ ap (λ (n : ℕ). numbered w limit p left n 0) (sym lines)
        ∙ ap (λ (n : ℕ). numbered w limit p left r.lines n) (sym sum)

    pick : (t : Bool) → goes_on last (prefix_missing all) ≡ t
        → Keeps None w limit r all more (reading_behind w limit r None (all ++ more))
        (cond t More (prefix_says (strict_prefix w all)))
    pick true e = refl
    pick false e = said (strict_prefix w all) refl (whole_before last (prefix_missing all) more ends e)

-- ---- the law

pub behind_keeps : (o : Option SectionPrefix) (w : Window) (limit : ℕ) (last : Bool) (r : ReaderView) (all more : List ℕ)
    → r.prefix ≡ o → IsPlaced o r → (last ≡ true → more ≡ [])
    → Keeps o w limit r all more (reading_behind w limit r o (all ++ more)) (next_behind w limit last r o all)
behind_keeps None w limit last r all more known placed ends =
    prefix_keeps w limit last r all more placed.0 placed.2 ends
behind_keeps (Some p) w limit last r all more known placed ends = elim (cases_lt (window_insert_count w) p.required) [
  | inl lt ↦
      subst (λ (n : Next). Keeps (Some p) w limit r all more (reading_behind w limit r (Some p) (all ++ more)) n)
      (sym (next_stays w limit last r p all lt))
      (rw (lt-ltb (window_insert_count w) p.required lt) refl)
  | inr le ↦
      subst (λ (n : Next). Keeps (Some p) w limit r all more (reading_behind w limit r (Some p) (all ++ more)) n)
      (sym (next_lines w limit last r p all le)) (lines_keep w limit last r p all more known le ends)
]

-- bytes are within a limit if they are with more
pub shorter_front : (offset limit : ℕ) (pending bytes more : List ℕ)
    → offset + length (pending ++ bytes ++ more) ≤ limit → offset + length pending + length bytes ≤ limit
shorter_front offset limit pending bytes more fits =
    omega (arith, fits, length-append (pending ++ bytes) more, length-append pending bytes)

pub pieces_keep : PiecesKeepTheReading
pieces_keep w limit last r bytes more k ends fits =
    let all = r.pending ++ bytes in
    let assoc : r.pending ++ (bytes ++ more) ≡ all ++ more = sym (append_assoc r.pending bytes more) in
    let short : r.offset + length r.pending + length bytes ≤ most_read limit =
    shorter_front r.offset (most_read limit) r.pending bytes more fits in
    let within : nat_le (r.offset + length r.pending + length bytes) (most_read limit) ≡ true =
    le-leb (r.offset + length r.pending + length bytes) (most_read limit) short in
    subst (KeepsReading w limit r all more (reading_on w limit r (bytes ++ more)))
    (sym (next_within w limit last r bytes within))
    (keeps_is r.prefix w limit r all more (reading_on w limit r (bytes ++ more)) (next_behind w limit last r r.prefix all) refl
    (subst (λ (l : List ℕ). Keeps r.prefix w limit r all more (reading_behind w limit r r.prefix l)
    (next_behind w limit last r r.prefix all)) (sym assoc)
    (behind_keeps r.prefix w limit last r all more refl k.placed ends)))
