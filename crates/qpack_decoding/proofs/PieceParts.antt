-- The parts of a section that comes in pieces, and what a call makes of them.
use Rattle.std.proofs.Common.{◌≡◌, ℕ, suc, ◌+◌, ◌-◌, ◌<◌, ◌≤◌, ◌⊎◌, Bool, true, false, List, [], ◌∷◌, ◌++◌}
use Rattle.std.proofs.Common.{length, drop, Option, None, Some, Result, Ok, Err, refl, sym, ap, ◌∙◌, arith, append-nil}
use Rattle.std.proofs.Common.{length-append, subst, inl, inr}
use Rattle.std.specs.Prelude.{nat_le}
use Rattle.std.proofs.lemmas.Bool.{leb-true, leb-false, lt-ltb, le-ltb}
use Rattle.std.proofs.Math.Seq.{drop-append-add}
use Rattle.qpack_spec.specs.Field.{FieldLine, field_size}
use Rattle.qpack_spec.specs.Stateless.{saturated_size}
use Rattle.qpack_spec.specs.Integer.{IntegerFault, Overflow, UnexpectedEnd, integer_at}
use Rattle.qpack_spec.specs.Line.{line_form}
use Rattle.qpack_spec.specs.StrictReading.{LineFault, SectionFault, InLine, LinesUnder}
use Rattle.qpack_spec.specs.StrictReading as strict
use Rattle.qpack_spec.specs.Window.{Window, window_insert_count}
use Rattle.qpack_rules.proofs.Waiting.{reads_integer}
use Rattle.qpack_base.specs.Cursor.{CursorView}
use Rattle.qpack_decoding.specs.Lines.{FailsLine, TellsLine, Extends}
use Rattle.qpack_decoding.specs.Missing.{missing_behind_count, line_missing, prefix_missing}
use Rattle.qpack_decoding.specs.Pieces.{goes_on, missing_in, IsEnough, FailsNext, prefix_says, next_prefix, Opens, StopsLine}
use Rattle.qpack_decoding.specs.Pieces.{line_at, Gathers, GathersPrefix, GathersLine, FindsPrefix, FindsLine, ReadsOneLine}
use Rattle.qpack_decoding.specs.Pieces.{ReaderView, IsPlaced, part_behind, opened, kept_failure, front_of, next_line, Gives}
use Rattle.qpack_decoding.specs.Pieces.{Next, ReadsOn}
use Rattle.qpack_decoding.specs.Pieces.{Fails, Stays, Answers, most_read, next_of, next_behind, lines_under}
use Rattle.qpack_decoding.specs.SectionPrefixes.{strict_prefix}
use Rattle.qpack_decoding.specs.Sections.{TellsFault, error_at}
use Rattle.qpack_decoding.specs.declared.section.LineError.{LineError}
use Rattle.qpack_decoding.specs.declared.section.LineError.TheVariants as line
use Rattle.qpack_decoding.specs.declared.section.SectionError.{SectionError}
use Rattle.qpack_decoding.specs.declared.section.SectionError.TheVariants as section
use Rattle.qpack_decoding.specs.declared.section.SectionPrefix.{SectionPrefix}
use Rattle.qpack_decoding.specs.declared.section.missing.Part.{Part}
use Rattle.qpack_decoding.specs.declared.section.missing.Part.TheVariants as part
use Rattle.qpack_decoding.specs.declared.section.reader.Progress.{Progress}
use Rattle.qpack_decoding.specs.declared.section.reader.Progress.TheVariants as progress
use Rattle.qpack_decoding.specs.declared.section.reader.Taken.{Taken}
use Rattle.qpack_decoding.proofs.MissingBytes.{form_missing_more, integer_fault_more, integer_missing_more}
use Rattle.qpack_decoding.proofs.MissingParts.{followed, line_followed, line_suffix, line_takes, prefix_followed, prefix_takes}

-- ---- none is missing: nor is any with more bytes behind

pub line_missing_more : (bytes more : List ℕ) → line_missing bytes ≡ 0 → line_missing (bytes ++ more) ≡ 0
unfolding line_missing
line_missing_more [] more none = absurd (omega (arith, none))
line_missing_more (b ∷ bytes) more none = form_missing_more (line_form b) (b ∷ bytes) more none

pub prefix_missing_more : (bytes more : List ℕ) → prefix_missing bytes ≡ 0 → prefix_missing (bytes ++ more) ≡ 0
unfolding prefix_missing
prefix_missing_more bytes more none = go (integer_at 8 bytes) refl none
  where
    go : (r : Result (ℕ × ℕ × List ℕ) IntegerFault) → integer_at 8 bytes ≡ r → missing_behind_count r ≡ 0
        → missing_behind_count (integer_at 8 (bytes ++ more)) ≡ 0
    go (Ok c) q h =
        ap missing_behind_count ((reads_integer 8 bytes c q).again more) ∙ integer_missing_more 7 c.2 more h
    go (Err Overflow) q h = ap missing_behind_count (integer_fault_more 8 bytes more q)
    go (Err UnexpectedEnd) q h = absurd cc

none_goes_on : (last : Bool) (missing : ℕ) → missing ≡ 0 → goes_on last missing ≡ false
none_goes_on true missing none = refl
none_goes_on false missing none = rw none refl

-- ---- enough is there

-- of a prefix
pub prefix_enough : (w : Window) (last : Bool) (all there : List ℕ) → IsEnough part.Prefix last all there
    → (goes_on last (prefix_missing all) ≡ false) × (strict_prefix w all ≡ strict_prefix w there)
prefix_enough w last all there k = go k.whole
  where
    go : (k.more ≡ []) ⊎ (prefix_missing there ≡ 0)
        → (goes_on last (prefix_missing all) ≡ false) × (strict_prefix w all ≡ strict_prefix w there)
    go (inl none) =
        let same : all ≡ there = k.cut ∙ ap (λ (x : List ℕ). there ++ x) none ∙ append-nil there in
        (ap (λ (x : List ℕ). goes_on last (prefix_missing x)) same ∙ k.reads, ap (strict_prefix w) same)
    go (inr none) = (
      none_goes_on last (prefix_missing all) (ap prefix_missing k.cut ∙ prefix_missing_more there k.more none),
      ap (strict_prefix w) k.cut ∙ prefix_followed w there k.more none,
    )

pub prefix_next : (w : Window) (last : Bool) (all there : List ℕ) → IsEnough part.Prefix last all there
    → next_prefix w last all ≡ prefix_says (strict_prefix w there)
prefix_next w last all there k =
    let enough = prefix_enough w last all there k in rw (enough.0, enough.1) refl

prefix_fails : (e : SectionError) (r : Result (ℕ × ℕ × ℕ) SectionFault) → TellsFault e r → FailsNext e (prefix_says r)
prefix_fails section.Memory r h = tt
prefix_fails section.TooLong (Err fault) h = h
prefix_fails (section.Prefix d) (Err fault) h = h
prefix_fails section.CountAtZero (Err fault) h = h
prefix_fails (section.Line number offset d) (Err fault) h = h
prefix_fails section.TooLong (Ok p) h = absurd h
prefix_fails (section.Prefix d) (Ok p) h = absurd h
prefix_fails section.CountAtZero (Ok p) h = absurd h
prefix_fails (section.Line number offset d) (Ok p) h = absurd h

pub prefix_refused : (w : Window) (last : Bool) (all there : List ℕ) (e : SectionError)
    → IsEnough part.Prefix last all there → TellsFault e (strict_prefix w there) → FailsNext e (next_prefix w last all)
prefix_refused w last all there e k h =
    subst (FailsNext e) (sym (prefix_next w last all there k)) (prefix_fails e (strict_prefix w there) h)

-- the prefix was found
pub record PrefixFound (w : Window) (last : Bool) (old bytes : List ℕ) (p : SectionPrefix) : Type 0 where
  pub next : next_prefix w last (old ++ bytes) ≡ Opens p
  pub after : length old < p.length
  pub within : p.length ≤ length old + length bytes

pub prefix_found : (w : Window) (last : Bool) (old bytes there : List ℕ) (p : SectionPrefix) → 0 < prefix_missing old
    → IsEnough part.Prefix last (old ++ bytes) there
    → strict_prefix w there ≡ Ok (p.required, p.base, p.length) → PrefixFound w last old bytes p
prefix_found w last old bytes there p cut k e =
    let whole = (prefix_enough w last (old ++ bytes) there k).1 ∙ e in
    let takes = prefix_takes w old bytes (p.required, p.base, p.length) cut whole in
    record {
      next = prefix_next w last (old ++ bytes) there k ∙ ap prefix_says e;
      after = takes.0;
      within = takes.1;
    }

-- of a line
pub followed_none : (r : Result (FieldLine × List ℕ) LineFault) → r ≡ followed [] r
followed_none (Ok x) =
    ap (λ (l : List ℕ). let y : Result (FieldLine × List ℕ) LineFault = Ok (x.0, l) in y) (sym (append-nil x.1))
followed_none (Err e) = refl

pub record LineEnough (u : LinesUnder) (sum : ℕ) (last : Bool) (all there : List ℕ) : Type 0 where
  pub more : List ℕ
  pub cut : all ≡ there ++ more
  pub reads : goes_on last (line_missing all) ≡ false
  pub is : line_at u sum all ≡ followed more (line_at u sum there)

pub line_enough : (u : LinesUnder) (sum : ℕ) (last : Bool) (all there : List ℕ) → IsEnough part.Line last all there
    → LineEnough u sum last all there
line_enough u sum last all there k = go k.whole
  where
    go : (k.more ≡ []) ⊎ (line_missing there ≡ 0) → LineEnough u sum last all there
    go (inl none) =
        let same : all ≡ there = k.cut ∙ ap (λ (x : List ℕ). there ++ x) none ∙ append-nil there in
        record {
          more = [];
          cut = same ∙ sym (append-nil there);
          reads = ap (λ (x : List ℕ). goes_on last (line_missing x)) same ∙ k.reads;
          is = ap (line_at u sum) same ∙ followed_none (line_at u sum there);
        }
    go (inr none) =
        record {
          more = k.more;
          cut = k.cut;
          reads = none_goes_on last (line_missing all) (ap line_missing k.cut ∙ line_missing_more there k.more none);
          is = ap (line_at u sum) k.cut ∙ line_followed u sum there k.more none;
        }

line_fails : (e : LineError) (more : List ℕ) (r : Result (FieldLine × List ℕ) LineFault) → FailsLine e r
    → FailsLine e (followed more r)
line_fails line.Memory more r h = tt
line_fails (line.Meaningless d) more (Err x) h = h
line_fails (line.PastRequired i) more (Err x) h = h
line_fails (line.TooLarge s) more (Err x) h = h
line_fails (line.Meaningless d) more (Ok x) h = absurd h
line_fails (line.PastRequired i) more (Ok x) h = absurd h
line_fails (line.TooLarge s) more (Ok x) h = absurd h

pub line_refused : (u : LinesUnder) (sum : ℕ) (last : Bool) (all there : List ℕ) (e : LineError)
    → IsEnough part.Line last all there → FailsLine e (line_at u sum there) → StopsLine e u sum last all
line_refused u sum last all there e k h = go e (line_fails e enough.more (line_at u sum there) h)
  where
    enough : LineEnough u sum last all there
    enough = line_enough u sum last all there k

    go : (e : LineError) → FailsLine e (followed enough.more (line_at u sum there)) → StopsLine e u sum last all
    go line.Memory f = tt
    go (line.Meaningless d) f =
        (enough.reads, subst (λ r. FailsLine (line.Meaningless d) r) (sym enough.is) f)
    go (line.PastRequired i) f =
        (enough.reads, subst (λ r. FailsLine (line.PastRequired i) r) (sym enough.is) f)
    go (line.TooLarge s) f =
        (enough.reads, subst (λ r. FailsLine (line.TooLarge s) r) (sym enough.is) f)

-- the line was found
pub record LineFound (u : LinesUnder) (sum : ℕ) (last : Bool) (old bytes there : List ℕ) (f : FieldLine)
    (rest : List ℕ) : Type 0 where
  pub left : List ℕ
  pub is : line_at u sum (old ++ bytes) ≡ Ok (f, left)
  pub reads : goes_on last (line_missing (old ++ bytes)) ≡ false
  pub all : (length there - length rest) + length left ≡ length old + length bytes
  pub shorter : length left < length bytes
  pub suffix : left ≡ drop (length bytes - length left) bytes

pub line_found : (u : LinesUnder) (sum : ℕ) (last : Bool) (old bytes there : List ℕ) (f : FieldLine) (rest : List ℕ)
    → 0 < line_missing old → IsEnough part.Line last (old ++ bytes) there → line_at u sum there ≡ Ok (f, rest)
    → length rest < length there → LineFound u sum last old bytes there f rest
line_found u sum last old bytes there f rest cut k e short =
    let enough = line_enough u sum last (old ++ bytes) there k in
    let is : line_at u sum (old ++ bytes) ≡ Ok (f, rest ++ enough.more) = enough.is ∙ ap (followed enough.more) e in
    record {
      left = rest ++ enough.more;
      is = is;
      reads = enough.reads;
      all = omega (
        arith,
        short,
        ap length enough.cut,
        length-append old bytes,
        length-append there enough.more,
        length-append rest enough.more,
      );
      shorter = line_takes u sum old bytes (rest ++ enough.more) f cut is;
      suffix = line_suffix u sum old bytes (rest ++ enough.more) f is
          (omega (arith, line_takes u sum old bytes (rest ++ enough.more) f cut is));
    }

-- ---- after bytes were gathered

pub gathered : (p : Part) (last b : Bool) (old new bytes : List ℕ) → b ≡ true
    → Gathers p last old new bytes (Ok b) → IsEnough p last (old ++ bytes) (front_of new bytes) × Extends old new
gathered p last true old new bytes h k = k
gathered p last false old new bytes h k = absurd cc

pub gathers_refused : (w : Window) (last b : Bool) (old new bytes there : List ℕ) (e : SectionError)
    → there ≡ front_of new bytes → b ≡ true → Gathers part.Prefix last old new bytes (Ok b)
    → TellsFault e (strict_prefix w there) → GathersPrefix w last old new bytes (Err e)
gathers_refused w last b old new bytes there e same h k fails =
    let enough = gathered part.Prefix last b old new bytes h k in (
      prefix_refused w last (old ++ bytes) (front_of new bytes) e enough.0
          (subst (λ (x : List ℕ). TellsFault e (strict_prefix w x)) same fails),
      enough.1,
    )

pub gathers_found : (w : Window) (last b : Bool) (old new now bytes there : List ℕ) (p : SectionPrefix)
    → 0 < prefix_missing old → there ≡ front_of new bytes → b ≡ true → now ≡ []
    → Gathers part.Prefix last old new bytes (Ok b)
    → strict_prefix w there ≡ Ok (p.required, p.base, p.length) → FindsPrefix w last old now bytes (Ok (Some p))
gathers_found w last b old new now bytes there p cut same h none k is =
    let enough = gathered part.Prefix last b old new bytes h k in
    let found = prefix_found w last old bytes (front_of new bytes) p cut enough.0 (ap (strict_prefix w) (sym same) ∙ is) in
    (found.next, none, found.after, found.within)

pub gathers_line_refused : (u : LinesUnder) (sum : ℕ) (last b : Bool) (old new bytes there : List ℕ)
    (fields : List FieldLine) (e : LineError) → there ≡ front_of new bytes → b ≡ true
    → Gathers part.Line last old new bytes (Ok b) → FailsLine e (line_at u sum there) → fields ≡ []
    → GathersLine u sum last old new bytes fields (Err e)
gathers_line_refused u sum last b old new bytes there fields e same h k fails none =
    let enough = gathered part.Line last b old new bytes h k in (
      line_refused u sum last (old ++ bytes) (front_of new bytes) e enough.0
          (subst (λ (x : List ℕ). FailsLine e (line_at u sum x)) same fails),
      enough.1,
      none,
    )

pub gathers_line_found : (u : LinesUnder) (sum with : ℕ) (last b : Bool) (old new now bytes there : List ℕ)
    (cur read : CursorView) (len : ℕ) (fields : List FieldLine) → 0 < line_missing old → there ≡ front_of new bytes
    → b ≡ true → now ≡ [] → Gathers part.Line last old new bytes (Ok b) → cur.rest ≡ there
    → cur.total ≡ length there → ReadsOneLine cur read fields sum (Ok with) (line_at u sum cur.rest)
    → len + length read.rest ≡ read.total
    → FindsLine u sum last old now bytes fields (Ok (Some (record { len = len; sum = with })))
gathers_line_found u sum with last b old new now bytes there cur read len fields cut same h none k rest total r at =
    let enough = gathered part.Line last b old new bytes h k in
    let whole : cur.rest ≡ front_of new bytes = rest ∙ same in
    let found = line_found u sum last old bytes (front_of new bytes) r.0 read.rest cut enough.0
    (ap (line_at u sum) (sym whole) ∙ r.1) (omega (arith, r.4, ap length whole)) in (
      r.0,
      found.left,
      found.is,
      r.2,
      none,
      found.reads,
      omega (arith, found.all, at, r.5, total, ap length same, r.4, ap length rest),
      found.shorter,
      found.suffix,
      r.3,
    )

-- ---- what a call makes of a prefix

drop_past : (n : ℕ) (xs ys : List ℕ) → length xs ≤ n → drop (n - length xs) ys ≡ drop n (xs ++ ys)
drop_past n xs ys le =
    sym (ap (λ (m : ℕ). drop m (xs ++ ys)) (let e : n ≡ length xs + (n - length xs) = omega (arith, le) in e)
    ∙ drop-append-add xs ys (n - length xs))

pub answers_opens : (w : Window) (last : Bool) (old new : ReaderView) (now bytes left : List ℕ) (p : SectionPrefix)
    → FindsPrefix w last old.pending now bytes (Ok (Some p)) → left ≡ drop (p.length - length old.pending) bytes
    → new ≡ opened p old
    → Answers (next_prefix w last (old.pending ++ bytes)) old new (old.pending ++ bytes) bytes left []
    (Ok (progress.Prefix p.required))
answers_opens w last old new now bytes left p k at is =
    rw k.0 (refl, is, at ∙ drop_past p.length old.pending bytes (omega (arith, k.2)), refl)

-- ---- what a call makes of a line

next_gives : (u : LinesUnder) (last : Bool) (r : ReaderView) (all left : List ℕ) (f : FieldLine)
    → goes_on last (line_missing all) ≡ false → line_at u r.sum all ≡ Ok (f, left) → next_line u last r all ≡ Gives f left
unfolding line_at
next_gives u last r [] left f reads is = absurd cc
next_gives u last r (b ∷ more) left f reads is = rw (reads, is) refl

pub answers_gives : (u : LinesUnder) (last : Bool) (old new : ReaderView) (now bytes left : List ℕ)
    (fields : List FieldLine) (taken : Taken)
    → FindsLine u old.sum last old.pending now bytes fields (Ok (Some taken))
    → left ≡ drop (taken.len - length old.pending) bytes
    → new ≡ record old { pending = []; lines = old.lines + 1; offset = old.offset + taken.len; sum = taken.sum }
    → Answers (next_line u last old (old.pending ++ bytes)) old new (old.pending ++ bytes) bytes left fields
    (Ok progress.Field)
answers_gives u last old new now bytes left fields taken (f, rest, is, one, none, reads, all, shorter, suffix, sum) at view =
    let many : taken.len - length old.pending ≡ length bytes - length rest = omega (arith, all, shorter) in
    let same : left ≡ rest = at ∙ ap (λ (n : ℕ). drop n bytes) many ∙ sym suffix in
    let len : taken.len ≡ length (old.pending ++ bytes) - length rest =
    omega (arith, all, length-append old.pending bytes) in
    rw (next_gives u last old (old.pending ++ bytes) rest f reads is) (
      view ∙ grown old (old.lines + 1) (suc old.lines) taken.len (length (old.pending ++ bytes) - length rest) taken.sum
          (saturated_size (old.sum + field_size f.field)) (omega arith) len sum,
      same,
      omega (arith, shorter, ap length same),
      one,
    )
  where
    grown : (r : ReaderView) (m n i j a b : ℕ) → m ≡ n → i ≡ j → a ≡ b
        → (let x : ReaderView = record r { pending = []; lines = m; offset = r.offset + i; sum = a } in
        let y : ReaderView = record r { pending = []; lines = n; offset = r.offset + j; sum = b } in x ≡ y)
    grown r m n i j a b p q s = rw (p, q, s) refl

next_fails : (u : LinesUnder) (last : Bool) (r : ReaderView) (all : List ℕ) (fault : LineFault) → 0 < length all
    → goes_on last (line_missing all) ≡ false → line_at u r.sum all ≡ Err fault
    → next_line u last r all ≡ Fails (InLine (suc r.lines) r.offset fault)
next_fails u last r [] fault some reads is = absurd (omega (arith, some))
next_fails u last r (b ∷ more) fault some reads is = rw (reads, is) refl

-- the fault of a line that fails, and not for memory
fault_is : (e : LineError) (r : Result (FieldLine × List ℕ) LineFault) → FailsLine e r → (e ≡ line.Memory → ⊥)
    → (fault : LineFault) × (r ≡ Err fault) × TellsLine e fault
fault_is line.Memory r h some = absurd (some refl)
fault_is (line.Meaningless d) (Err x) h some = (x, refl, h)
fault_is (line.PastRequired i) (Err x) h some = (x, refl, h)
fault_is (line.TooLarge s) (Err x) h some = (x, refl, h)
fault_is (line.Meaningless d) (Ok x) h some = absurd h
fault_is (line.PastRequired i) (Ok x) h some = absurd h
fault_is (line.TooLarge s) (Ok x) h some = absurd h

pub answers_refused : (u : LinesUnder) (last : Bool) (old new : ReaderView) (now bytes left : List ℕ)
    (fields : List FieldLine) (number : ℕ) (e : LineError)
    → FindsLine u old.sum last old.pending now bytes fields (Err e) → 0 < length old.pending + length bytes
    → left ≡ bytes → number ≡ suc old.lines → new ≡ kept_failure (error_at number old.offset e) old
    → Answers (next_line u last old (old.pending ++ bytes)) old new (old.pending ++ bytes) bytes left fields
    (Err (error_at number old.offset e))
answers_refused u last old new now bytes left fields number line.Memory (stops, same, none) some at count is = (is, at, none)
answers_refused u last old new now bytes left fields number (line.Meaningless d) (stops, same, none) some at count is =
    let fault = fault_is (line.Meaningless d) _ stops.1 (λ m. cc) in
    rw (next_fails u last old (old.pending ++ bytes) fault.0 (omega (arith, some, length-append old.pending bytes)) stops.0 fault.1)
    ((count, refl, fault.2), is, at, none)
answers_refused u last old new now bytes left fields number (line.PastRequired i) (stops, same, none) some at count is =
    let fault = fault_is (line.PastRequired i) _ stops.1 (λ m. cc) in
    rw (next_fails u last old (old.pending ++ bytes) fault.0 (omega (arith, some, length-append old.pending bytes)) stops.0 fault.1)
    ((count, refl, fault.2), is, at, none)
answers_refused u last old new now bytes left fields number (line.TooLarge s) (stops, same, none) some at count is =
    let fault = fault_is (line.TooLarge s) _ stops.1 (λ m. cc) in
    rw (next_fails u last old (old.pending ++ bytes) fault.0 (omega (arith, some, length-append old.pending bytes)) stops.0 fault.1)
    ((count, refl, fault.2), is, at, none)

-- ---- the reader

pub placed_on : (prefix : Option SectionPrefix) (r u : ReaderView) (len : ℕ) → part_behind prefix ≡ part.Line
    → IsPlaced prefix r → u.lines ≡ r.lines + 1 → u.offset ≡ r.offset + len → 0 < len → IsPlaced prefix u
placed_on None r u len is k lines offset some = absurd cc
placed_on (Some p) r u len is k lines offset some = omega (arith, k, lines, offset, some)

-- before the prefix no line was read
pub none_placed : (prefix : Option SectionPrefix) (r : ReaderView) → prefix ≡ None → IsPlaced prefix r → r.lines ≡ 0
none_placed None r is k = k.0
none_placed (Some p) r is k = absurd cc

pub no_line_waits : (prefix : Option SectionPrefix) (pending : List ℕ) → part_behind prefix ≡ part.Line → pending ≡ []
    → 0 < missing_in (part_behind prefix) pending
unfolding line_missing
no_line_waits prefix [] is none = rw is (omega arith)
no_line_waits prefix (b ∷ pending) is none = absurd (omega (arith, ap length none))

-- ---- what comes next

pub too_long : (w : Window) (limit : ℕ) (last : Bool) (r : ReaderView) (bytes : List ℕ)
    → nat_le (r.offset + length r.pending + length bytes) (most_read limit) ≡ false
    → next_of w limit last r (r.pending ++ bytes) ≡ Fails strict.TooLong
unfolding next_of
too_long w limit last r bytes e =
    rw (lt-ltb (most_read limit) (r.offset + length (r.pending ++ bytes))
    (omega (arith, leb-false _ _ e, length-append r.pending bytes))) refl

pub next_within : (w : Window) (limit : ℕ) (last : Bool) (r : ReaderView) (bytes : List ℕ)
    → nat_le (r.offset + length r.pending + length bytes) (most_read limit) ≡ true
    → next_of w limit last r (r.pending ++ bytes) ≡ next_behind w limit last r r.prefix (r.pending ++ bytes)
unfolding next_of
next_within w limit last r bytes e =
    rw (le-ltb (most_read limit) (r.offset + length (r.pending ++ bytes))
    (omega (arith, leb-true _ _ e, length-append r.pending bytes))) refl

pub next_stays : (w : Window) (limit : ℕ) (last : Bool) (r : ReaderView) (p : SectionPrefix) (all : List ℕ)
    → window_insert_count w < p.required → next_behind w limit last r (Some p) all ≡ Stays p.required
next_stays w limit last r p all h = rw (lt-ltb (window_insert_count w) p.required h) refl

pub next_lines : (w : Window) (limit : ℕ) (last : Bool) (r : ReaderView) (p : SectionPrefix) (all : List ℕ)
    → p.required ≤ window_insert_count w
    → next_behind w limit last r (Some p) all ≡ next_line (lines_under w limit p 0) last r all
next_lines w limit last r p all h = rw (le-ltb (window_insert_count w) p.required h) refl

-- a reader of a section that was not refused
pub reads_on : (w : Window) (limit : ℕ) (last : Bool) (old new : ReaderView) (bytes left : List ℕ)
    (fields : List FieldLine) (r : Result Progress SectionError) (next : Next) → old.failure ≡ None
    → next_of w limit last old (old.pending ++ bytes) ≡ next
    → Answers next old new (old.pending ++ bytes) bytes left fields r
    → ReadsOn w limit last old new bytes left fields r old.failure
reads_on w limit last old new bytes left fields r next live is answers =
    subst (λ (f : Option SectionError). ReadsOn w limit last old new bytes left fields r f) (sym live)
    (subst (λ (n : Next). Answers n old new (old.pending ++ bytes) bytes left fields r) (sym is) answers)

pub reads_none : (w : Window) (limit : ℕ) (last : Bool) (old new : ReaderView) (bytes : List ℕ)
    (fields : List FieldLine) (e : SectionError) → old.failure ≡ None
    → nat_le (old.offset + length old.pending + length bytes) (most_read limit) ≡ false → e ≡ section.TooLong
    → new ≡ kept_failure section.TooLong old → fields ≡ []
    → ReadsOn w limit last old new bytes bytes fields (Err e) old.failure
reads_none w limit last old new bytes fields e live long is kept none =
    reads_on w limit last old new bytes bytes fields (Err e) (Fails strict.TooLong) live
    (too_long w limit last old bytes long)
    (subst (λ (x : SectionError). Answers (Fails strict.TooLong) old new (old.pending ++ bytes) bytes bytes fields (Err x))
    (sym is) (refl, kept, refl, none))
