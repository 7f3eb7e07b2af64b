-- A section behind its prefix.
use Rattle.std.proofs.Common.{◌≡◌, ℕ, ◌<◌, ◌≤◌, Bool, true, false, List, length, Result, Ok, Err, refl, sym, ap, subst}
use Rattle.std.proofs.Common.{◌∙◌, ◌+◌, ◌-◌}
use Rattle.std.proofs.lemmas.List.{length-map}
use Rattle.std.specs.Prelude.{nat_lt, nat_eq, ◌&&◌, cond, if◌then◌else◌}
use Rattle.std.proofs.lemmas.Bool.{lt-ltb, le-ltb}
use Rattle.qpack_spec.specs.Field.{FieldLine}
use Rattle.qpack_spec.specs.Form.{FormFault}
use Rattle.qpack_spec.specs.LengthLaws.{longest_section}
use Rattle.qpack_spec.specs.Prefix.{Prefix, PrefixFault, OutOfRange, BelowZero, read_strict_prefix, prefix_at}
use Rattle.qpack_spec.specs.Reading.{BadPrefix}
use Rattle.qpack_spec.specs.StrictReading.{SectionFault, InPrefix, CountAtZero}
use Rattle.qpack_spec.specs.StrictReading.{Blocked, Refused, LinesUnder, strict_lines_at, lines_behind}
use Rattle.qpack_spec.specs.StrictReading.{StrictReading, strict_behind, strict_section_behind, strict_reading}
use Rattle.qpack_spec.specs.Table.{Table, window, insert_count}
use Rattle.qpack_spec.specs.Window.{Window, maximum_capacity, window_insert_count}
use Rattle.qpack_base.specs.declared.parse_error.ParseError.{ParseError}
use Rattle.qpack_wire.specs.Alone.{or_unreadable}
use Rattle.qpack_wire.specs.Prefixes.{or_prefix_error, read_prefix_at}
use Rattle.qpack_decoding.specs.declared.section.SectionError.{SectionError}
use Rattle.qpack_decoding.specs.declared.section.SectionError.TheVariants.{Memory}
use Rattle.qpack_decoding.specs.Sections.{FailsReading, FailsSection, TellsFault, TellsSection, section_error_of}
use Rattle.qpack_decoding.specs.SectionPrefixes.{or_in_prefix, strict_numbers, with_length, prefix_behind, strict_prefix}
use Rattle.qpack_decoding.specs.SectionPrefixes.{WaitsAs, PrefixSaysWhatWaits}

abbrev pub maximum_of : Window → ℕ
maximum_of w = maximum_capacity w.agreed_max w.capacity

-- whether a prefix has a count where none can be
abbrev pub counts : Window → Prefix → Bool
counts w p = nat_eq (maximum_of w) 0 && nat_lt 0 p.count

-- what its lines are read under
abbrev pub behind_prefix : Window → ℕ → ℕ → ℕ → ℕ → LinesUnder
behind_prefix w limit section required base =
    record { window = w; required = required; base = base; limit = limit; section = section }

-- the reading after the numbers of the prefix
abbrev pub after_numbers : Window → ℕ → ℕ → List ℕ → Result (ℕ × ℕ) SectionFault → StrictReading
after_numbers w limit section rest (Err fault) = Refused fault
after_numbers w limit section rest (Ok p) =
    if nat_lt (window_insert_count w) p.0 then Blocked p.0
    else lines_behind p.0 (strict_lines_at (length rest) (behind_prefix w limit section p.0 p.1) 0 0 rest)

pub behind_numbers : (w : Window) (limit section : ℕ) (p : Prefix) (rest : List ℕ)
    → strict_section_behind w limit section (Ok (p, rest)) ≡ after_numbers w limit section rest (strict_numbers w p)
behind_numbers w limit section p rest = go (counts w p) (read_strict_prefix (window_insert_count w) (maximum_of w) p)
  where
    go : (t : Bool) (r : Result (ℕ × ℕ) PrefixFault) → cond t (Refused CountAtZero) (strict_behind w limit section rest r)
        ≡ after_numbers w limit section rest (cond t (Err CountAtZero) (or_in_prefix r))
    go true r = refl
    go false (Ok x) = refl
    go false (Err x) = refl

pub numbers_blocked : (w : Window) (limit section : ℕ) (rest : List ℕ) (required base : ℕ) → window_insert_count w < required
    → after_numbers w limit section rest (Ok (required, base)) ≡ Blocked required
numbers_blocked w limit section rest required base h = rw (lt-ltb (window_insert_count w) required h) refl

pub numbers_read : (w : Window) (limit section : ℕ) (rest : List ℕ) (required base : ℕ) → required ≤ window_insert_count w
    → after_numbers w limit section rest (Ok (required, base))
    ≡ lines_behind required (strict_lines_at (length rest) (behind_prefix w limit section required base) 0 0 rest)
numbers_read w limit section rest required base h = rw (le-ltb (window_insert_count w) required h) refl

-- why the numbers are refused is why the section is
pub numbers_fail : (w : Window) (limit section : ℕ) (rest : List ℕ) (e : SectionError) (r : Result (ℕ × ℕ) SectionFault)
    → TellsFault e r → FailsReading e (after_numbers w limit section rest r)
numbers_fail w limit section rest e (Ok x) h = absurd h
numbers_fail w limit section rest Memory (Err fault) h = tt
numbers_fail w limit section rest e (Err fault) h = h

-- lines are read or refused, and never wait
lines_never_wait : (read required : ℕ) (r : Result (List FieldLine) SectionFault)
    → lines_behind read r ≡ Blocked required → ⊥
lines_never_wait read required (Ok fields) e = absurd cc
lines_never_wait read required (Err fault) e = absurd cc

-- a section waits as the numbers of its prefix say
numbers_wait : (w : Window) (limit section taken : ℕ) (rest : List ℕ) (r : Result (ℕ × ℕ) SectionFault)
    → WaitsAs (window_insert_count w) (with_length taken r) (after_numbers w limit section rest r)
numbers_wait w limit section taken rest (Err fault) = refl
numbers_wait w limit section taken rest (Ok p) = (
  λ waits. numbers_blocked w limit section rest p.0 p.1 waits,
  λ le required e. lines_never_wait p.0 required
      (strict_lines_at (length rest) (behind_prefix w limit section p.0 p.1) 0 0 rest)
      (sym (numbers_read w limit section rest p.0 p.1 le) ∙ e),
)

prefix_waits : (w : Window) (limit section : ℕ) (r : Result (Prefix × List ℕ) FormFault)
    → WaitsAs (window_insert_count w) (prefix_behind w section r) (strict_section_behind w limit section r)
prefix_waits w limit section (Err e) = refl
prefix_waits w limit section (Ok p) =
    rw (behind_numbers w limit section p.0 p.1)
    (numbers_wait w limit section (section - length p.1) p.1 (strict_numbers w p.0))

pub says_what_waits : PrefixSaysWhatWaits
unfolding strict_prefix strict_reading
says_what_waits w limit bytes fits =
    rw (le-ltb (longest_section limit) (length bytes) fits) (prefix_waits w limit (length bytes) (prefix_at bytes))

pub numbers_at_zero : (w : Window) (p : Prefix) → counts w p ≡ true → strict_numbers w p ≡ Err CountAtZero
numbers_at_zero w p counted = rw counted refl

pub numbers_of : (w : Window) (p : Prefix) (r : Result (ℕ × ℕ) PrefixFault) → counts w p ≡ false
    → read_strict_prefix (window_insert_count w) (maximum_of w) p ≡ r → strict_numbers w p ≡ or_in_prefix r
numbers_of w p r counted read = rw (counted, read) refl

-- why the numbers are refused is why the prefix is
length_fails : (e : SectionError) (taken : ℕ) (r : Result (ℕ × ℕ) SectionFault) → TellsFault e r
    → TellsFault e (with_length taken r)
length_fails e taken (Ok x) h = absurd h
length_fails e taken (Err fault) h = h

prefix_there : (r : Result (Prefix × List ℕ) FormFault) (p : Prefix) (rest : List ℕ) → or_unreadable r ≡ Ok (p, rest)
    → r ≡ Ok (p, rest)
prefix_there (Ok x) p rest e = cc
prefix_there (Err x) p rest e = absurd cc

pub prefix_fails : (w : Window) (bytes rest : List ℕ) (p : Prefix) (e : SectionError)
    → read_prefix_at bytes ≡ Ok (p, rest) → TellsFault e (strict_numbers w p) → TellsFault e (strict_prefix w bytes)
unfolding strict_prefix
prefix_fails w bytes rest p e read fails =
    rw (prefix_there (prefix_at bytes) p rest read)
    (length_fails e (length bytes - length rest) (strict_numbers w p) fails)

-- ---- errors

err_is : (d e : ParseError) → (let r : Result (ℕ × ℕ) ParseError = Err d in r) ≡ Err e → d ≡ e
err_is d e q = cc

-- why a prefix is refused
pub prefix_refused : (r : Result (ℕ × ℕ) PrefixFault) (e : ParseError) → or_prefix_error r ≡ Err e
    → (x : PrefixFault) × (r ≡ Err x) × TellsSection (section_error_of e) (InPrefix (BadPrefix x))
prefix_refused (Ok p) e q = absurd cc
prefix_refused (Err OutOfRange) e q = (
  OutOfRange,
  refl,
  subst (λ (d : ParseError). TellsSection (section_error_of d) (InPrefix (BadPrefix OutOfRange)))
      (err_is _ e q) refl,
)
prefix_refused (Err (BelowZero base)) e q = (
  BelowZero base,
  refl,
  subst (λ (d : ParseError). TellsSection (section_error_of d) (InPrefix (BadPrefix (BelowZero base))))
      (err_is _ e q) refl,
)

pub prefix_read : (r : Result (ℕ × ℕ) PrefixFault) (required base : ℕ) → or_prefix_error r ≡ Ok (required, base)
    → r ≡ Ok (required, base)
prefix_read (Ok p) required base q = cc
prefix_read (Err OutOfRange) required base q = absurd cc
prefix_read (Err (BelowZero b)) required base q = absurd cc

-- a fault of the lines is the section's
pub lines_fail : (e : SectionError) (required : ℕ) (r : Result (List FieldLine) SectionFault) → FailsSection e r
    → FailsReading e (lines_behind required r)
lines_fail Memory required r h = tt
lines_fail e required (Err x) h = h
lines_fail e required (Ok x) h = absurd h

-- a prefix that was read at these numbers, which are the window's
pub prefix_known : (w : Window) (total maximum : ℕ) (p : Prefix) (r : Result (ℕ × ℕ) PrefixFault)
    → total ≡ window_insert_count w → maximum ≡ maximum_of w → read_strict_prefix total maximum p ≡ r
    → read_strict_prefix (window_insert_count w) (maximum_of w) p ≡ r
prefix_known w total maximum p r t m q =
    ap (λ n. read_strict_prefix n (maximum_of w) p) (sym t) ∙ ap (λ n. read_strict_prefix total n p) (sym m) ∙ q

-- the window's numbers are the table's
pub count_is : (t : Table) → insert_count t ≡ window_insert_count (window t)
unfolding window
count_is t = ap (λ n. t.dropped + n) (sym (length-map t.live (λ e. e.field)))

pub most_is : (t : Table) → maximum_capacity t.agreed_max t.capacity ≡ maximum_of (window t)
unfolding window
most_is t = refl
