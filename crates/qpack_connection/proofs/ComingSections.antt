-- What is still to come of a section in pieces, between calls.
use Rattle.std.proofs.Common.{◌≡◌, ◌<◌, ◌≤◌, ◌+◌, ◌-◌, ◌^◌, ◌⊎◌, ℕ, suc, Bool, true, false, cond, List, [], ◌∷◌, ◌++◌}
use Rattle.std.proofs.Common.{append_assoc, length, drop, Option, Some, None, Result, Ok, Err, refl, sym, ap, subst, ◌∙◌, arith}
use Rattle.std.specs.Prelude.{nat_lt}
use Rattle.std.proofs.lemmas.Bool.{ltb-true, ltb-false}
use Rattle.std.proofs.Math.Seq.{drop-append_seam}
use Rattle.qpack_spec.specs.Field.{FieldLine}
use Rattle.qpack_spec.specs.StrictReading.{LineFault, SectionFault, LinesUnder, TooLong, strict_reading}
use Rattle.qpack_spec.specs.Window.{Window, window_insert_count}
use Rattle.qpack_decoding.specs.Missing.{line_missing, prefix_missing}
use Rattle.qpack_decoding.specs.PieceLaws.{reading_on, ReadsOrWaits, LeavesReading}
use Rattle.qpack_decoding.specs.Pieces.{ReaderView, IsReading, Next, More, Opens, Stays, Gives, Over, Fails, Answers}
use Rattle.qpack_decoding.specs.Pieces.{fresh, opened, behind_line, goes_on, line_at, lines_under, line_says, prefix_says}
use Rattle.qpack_decoding.specs.Pieces.{next_prefix, next_line, next_behind, next_of, most_read}
use Rattle.qpack_decoding.specs.SectionPrefixes.{strict_prefix}
use Rattle.qpack_decoding.specs.declared.section.SectionPrefix.{SectionPrefix}
use Rattle.qpack_decoding.specs.declared.section.reader.Progress.{Progress}
use Rattle.qpack_decoding.specs.declared.section.reader.Progress.TheVariants as progress
use Rattle.qpack_decoding.proofs.PieceSteps.{no_prefix_waits}
use Rattle.qpack_decoding.proofs.PieceWindows.{pieces_leave}
use Rattle.qpack_decoding.proofs.PiecesInTurn.{IsOn, GoesOn, next_goes_on, whole_is}
use Rattle.qpack_connection.specs.Connections.{SentSection}
use Rattle.qpack_connection.specs.LawfulEncoders.{Coming, begins}

-- ---- between calls

-- a window reads the whole section, or waits with it
abbrev pub ReadsWhole : Window → ℕ → SentSection → Type 0
ReadsWhole w limit k = ReadsOrWaits k.fields k.required (strict_reading w limit k.bytes)

-- each window that reads the whole reads what is to come as the fields that are
pub record Goes (limit stream : ℕ) (c : Coming) : Type 0 where
  pub of_stream : c.reader.stream ≡ stream
  pub live : c.reader.failure ≡ None
  pub reading : IsReading c.reader
  pub fits : (w : Window) → length c.sent.bytes < 2 ^ 64 → ReadsWhole w limit c.sent
      → c.reader.offset + length (c.reader.pending ++ c.rest) ≤ most_read limit
  pub reads : (w : Window) → ReadsWhole w limit c.sent
      → ReadsOrWaits c.fields c.sent.required (reading_on w limit c.reader c.rest)

pub goes_begins : (limit s : ℕ) (k : SentSection) → Goes limit s (begins s k)
goes_begins limit s k =
    record {
      of_stream = refl;
      live = refl;
      reading = record { cut = no_prefix_waits; placed = (refl, refl, refl) };
      fits = λ w short whole. omega (arith, short, (whole_is w limit k.required k.bytes k.fields whole).0);
      reads = λ w whole. (whole_is w limit k.required k.bytes k.fields whole).1;
    }

-- ---- what comes next

-- what it says of the insertions that were received, and of all bytes that are there
abbrev pub Says : Window → Bool → List ℕ → Next → Type 0
Says w last all More = last ≡ false
Says w last all (Stays required) = window_insert_count w < required
Says w last all (Over required) = (required ≤ window_insert_count w) × (last ≡ true) × (all ≡ [])
Says w last all next = Unit {0}

not_last : (last : Bool) (missing : ℕ) → goes_on last missing ≡ true → last ≡ false
not_last true missing e = absurd cc
not_last false missing e = refl

prefix_so : (w : Window) (last : Bool) (all : List ℕ) (x : Result (ℕ × ℕ × ℕ) SectionFault) → Says w last all (prefix_says x)
prefix_so w last all (Ok p) = tt
prefix_so w last all (Err fault) = tt

next_prefix_says : (w : Window) (last : Bool) (all : List ℕ) → Says w last all (next_prefix w last all)
next_prefix_says w last all = pick (goes_on last (prefix_missing all)) refl
  where
    pick : (t : Bool) → goes_on last (prefix_missing all) ≡ t
        → Says w last all (cond t More (prefix_says (strict_prefix w all)))
    pick true e = not_last last (prefix_missing all) e
    pick false e = prefix_so w last all (strict_prefix w all)

line_so : (w : Window) (last : Bool) (all : List ℕ) (number offset : ℕ) (x : Result (FieldLine × List ℕ) LineFault)
    → Says w last all (line_says number offset x)
line_so w last all number offset (Ok x) = tt
line_so w last all number offset (Err fault) = tt

next_line_says : (w : Window) (u : LinesUnder) (last : Bool) (r : ReaderView) (all : List ℕ)
    → u.required ≤ window_insert_count w → Says w last all (next_line u last r all)
next_line_says w u true r [] there = (there, refl, refl)
next_line_says w u false r [] there = refl
next_line_says w u last r (b ∷ more) there = pick (goes_on last (line_missing (b ∷ more))) refl
  where
    pick : (t : Bool) → goes_on last (line_missing (b ∷ more)) ≡ t
        → Says w last (b ∷ more) (cond t More (line_says (suc r.lines) r.offset (line_at u r.sum (b ∷ more))))
    pick true e = not_last last (line_missing (b ∷ more)) e
    pick false e = line_so w last (b ∷ more) (suc r.lines) r.offset (line_at u r.sum (b ∷ more))

next_behind_says : (w : Window) (limit : ℕ) (last : Bool) (r : ReaderView) (o : Option SectionPrefix) (all : List ℕ)
    → Says w last all (next_behind w limit last r o all)
next_behind_says w limit last r None all = next_prefix_says w last all
next_behind_says w limit last r (Some p) all = pick (nat_lt (window_insert_count w) p.required) refl
  where
    pick : (t : Bool) → nat_lt (window_insert_count w) p.required ≡ t
        → Says w last all (cond t (Stays p.required) (next_line (lines_under w limit p 0) last r all))
    pick true e = ltb-true (window_insert_count w) p.required e
    pick false e =
        next_line_says w (lines_under w limit p 0) last r all (ltb-false (window_insert_count w) p.required e)

next_says : (w : Window) (limit : ℕ) (last : Bool) (r : ReaderView) (all : List ℕ)
    → Says w last all (next_of w limit last r all)
unfolding next_of
next_says w limit last r all = pick (nat_lt (most_read limit) (r.offset + length all))
  where
    pick : (t : Bool) → Says w last all (cond t (Fails TooLong) (next_behind w limit last r r.prefix all))
    pick true = tt
    pick false = next_behind_says w limit last r r.prefix all

-- what comes next of these bytes, before which the reader waits: the reader goes on after it, and each window that reads
-- the whole reads what it leaves
pub record Leaves (limit : ℕ) (c : Coming) (w : Window) (bytes more : List ℕ) (last : Bool) (next : Next) : Type 0 where
  pub goes : GoesOn limit c.reader (c.reader.pending ++ bytes) more next
  pub leaves : (other : Window) → ReadsWhole other limit c.sent
      → LeavesReading other limit c.reader (c.reader.pending ++ bytes) more c.fields c.sent.required next
  pub here : LeavesReading w limit c.reader (c.reader.pending ++ bytes) more c.fields c.sent.required next
  pub says : Says w last (c.reader.pending ++ bytes) next

pub leaves : (limit stream : ℕ) (c : Coming) (w : Window) (bytes more : List ℕ) (last : Bool) → Goes limit stream c
    → length c.sent.bytes < 2 ^ 64 → ReadsWhole w limit c.sent → c.rest ≡ bytes ++ more → (last ≡ true → more ≡ [])
    → Leaves limit c w bytes more last (next_of w limit last c.reader (c.reader.pending ++ bytes))
leaves limit stream c w bytes more last k short whole cut ends =
    let fits : c.reader.offset + length (c.reader.pending ++ bytes ++ more) ≤ most_read limit =
    subst (λ (x : List ℕ). c.reader.offset + length x ≤ most_read limit)
    (ap (λ (x : List ℕ). c.reader.pending ++ x) cut ∙ sym (append_assoc c.reader.pending bytes more))
    (k.fits w short whole) in
    let leave = λ (other : Window) (reads : ReadsWhole other limit c.sent).
    pieces_leave w other limit last c.reader bytes more c.fields c.sent.required k.reading ends fits
    (reads_rest w whole) (reads_rest other reads) in
    record {
      goes = next_goes_on w limit last c.reader bytes more k.reading fits;
      leaves = leave;
      here = leave w whole;
      says = next_says w limit last c.reader (c.reader.pending ++ bytes);
    }
  where
    reads_rest : (v : Window) → ReadsWhole v limit c.sent
        → ReadsOrWaits c.fields c.sent.required (reading_on v limit c.reader (bytes ++ more))
    reads_rest v reads =
        subst (λ (x : List ℕ). ReadsOrWaits c.fields c.sent.required (reading_on v limit c.reader x)) cut
        (k.reads v reads)

-- ---- after a call

-- what is to come after what a call gave
abbrev pub left_coming : Coming → ReaderView → List ℕ → List ℕ → List FieldLine → Coming
left_coming c reader bytes left fields =
    record c { reader = reader; rest = left ++ drop (length bytes) c.rest; fields = drop (length fields) c.fields }

goes_to : (limit stream : ℕ) (c : Coming) (reader : ReaderView) (bytes left more : List ℕ) (fields others : List FieldLine)
    → Goes limit stream c → c.rest ≡ bytes ++ more → reader.stream ≡ c.reader.stream
    → reader.failure ≡ c.reader.failure → IsOn limit reader (left ++ more) → drop (length fields) c.fields ≡ others
    → ((w : Window) → ReadsWhole w limit c.sent
    → ReadsOrWaits others c.sent.required (reading_on w limit reader (left ++ more)))
    → Goes limit stream (left_coming c reader bytes left fields)
goes_to limit stream c reader bytes left more fields others k cut same live on given reads =
    let behind : drop (length bytes) c.rest ≡ more = ap (drop (length bytes)) cut ∙ drop-append_seam bytes more in
    record {
      of_stream = same ∙ k.of_stream;
      live = live ∙ k.live;
      reading = on.reading;
      fits = λ w short whole.
          subst (λ (x : List ℕ). reader.offset + length (reader.pending ++ (left ++ x)) ≤ most_read limit) (sym behind)
          on.fits;
      reads = λ w whole.
          subst (λ (x : List ℕ). ReadsOrWaits (drop (length fields) c.fields) c.sent.required
          (reading_on w limit reader (left ++ x))) (sym behind)
          (subst (λ (fs : List FieldLine). ReadsOrWaits fs c.sent.required (reading_on w limit reader (left ++ more)))
          (sym given) (reads w whole));
    }

-- the fields after the first
others_are : (f : FieldLine) (fields others rest : List FieldLine) → fields ≡ f ∷ others → fields ≡ f ∷ rest
    → rest ≡ others
others_are f fields others rest a b = let same : (f ∷ rest) ≡ (f ∷ others) = sym b ∙ a in cc

-- the same, where what is left is known
to : (limit stream : ℕ) (c : Coming) (known read : ReaderView) (bytes rest left more : List ℕ)
    (fields given others : List FieldLine) → Goes limit stream c → c.rest ≡ bytes ++ more → read ≡ known → left ≡ rest
    → fields ≡ given → known.stream ≡ c.reader.stream → known.failure ≡ c.reader.failure → IsOn limit known (rest ++ more)
    → drop (length given) c.fields ≡ others
    → ((w : Window) → ReadsWhole w limit c.sent
    → ReadsOrWaits others c.sent.required (reading_on w limit known (rest ++ more)))
    → Goes limit stream (left_coming c read bytes left fields)
to limit stream c known read bytes rest left more fields given others k cut is at one same live on behind reads =
    subst (λ (r : ReaderView). Goes limit stream (left_coming c r bytes left fields)) (sym is)
    (subst (λ (l : List ℕ). Goes limit stream (left_coming c known bytes l fields)) (sym at)
    (subst (λ (fs : List FieldLine). Goes limit stream (left_coming c known bytes rest fs)) (sym one)
    (goes_to limit stream c known bytes rest more given others k cut same live on behind reads)))

-- nothing was read
pub stays : (limit stream : ℕ) (c : Coming) (read : ReaderView) (bytes left more : List ℕ) (fields : List FieldLine)
    → Goes limit stream c → c.rest ≡ bytes ++ more → read ≡ c.reader → left ≡ bytes → fields ≡ []
    → Goes limit stream (left_coming c read bytes left fields)
stays limit stream c read bytes left more fields k cut is at none =
    let behind : drop (length bytes) c.rest ≡ more = ap (drop (length bytes)) cut ∙ drop-append_seam bytes more in
    let same : left ++ drop (length bytes) c.rest ≡ c.rest =
    ap (λ (l : List ℕ). l ++ drop (length bytes) c.rest) at ∙ ap (λ (x : List ℕ). bytes ++ x) behind ∙ sym cut in
    subst (λ (r : ReaderView). Goes limit stream (left_coming c r bytes left fields)) (sym is)
    (subst (λ (x : List ℕ). Goes limit stream (record c {
      reader = c.reader;
      rest = x;
      fields = drop (length fields) c.fields;
    })) (sym same)
    (subst (λ (fs : List FieldLine). Goes limit stream (record c {
      reader = c.reader;
      rest = c.rest;
      fields = drop (length fs) c.fields;
    })) (sym none) k))

-- a call that read on
pub goes_after : (limit stream : ℕ) (c : Coming) (w : Window) (read : ReaderView) (bytes left more : List ℕ) (last : Bool)
    (fields : List FieldLine) (p : Progress) (next : Next) → Goes limit stream c → c.rest ≡ bytes ++ more
    → Leaves limit c w bytes more last next
    → Answers next c.reader read (c.reader.pending ++ bytes) bytes left fields (Ok p)
    → ((required : ℕ) → p ≡ progress.Ends required → ⊥) → Goes limit stream (left_coming c read bytes left fields)
goes_after limit stream c w read bytes left more last fields progress.Waits More k cut l (is, none, no_field) going =
    to limit stream c (record c.reader { pending = c.reader.pending ++ bytes }) read bytes [] left more fields [] c.fields k
    cut is none no_field refl refl l.goes refl (λ v whole. l.leaves v whole)
goes_after limit stream c w read bytes left more last fields progress.Waits (Opens q) k cut l h going = absurd h
goes_after limit stream c w read bytes left more last fields progress.Waits (Stays many) k cut l h going = absurd h
goes_after limit stream c w read bytes left more last fields progress.Waits (Gives f rest) k cut l h going = absurd h
goes_after limit stream c w read bytes left more last fields progress.Waits (Over many) k cut l h going = absurd h
goes_after limit stream c w read bytes left more last fields progress.Waits (Fails fault) k cut l h going = absurd h
goes_after limit stream c w read bytes left more last fields (progress.Prefix required) More k cut l h going = absurd h
goes_after limit stream c w read bytes left more last fields (progress.Prefix required) (Opens q) k cut l (count, is, at, no_field) going =
    to limit stream c (opened q c.reader) read bytes (drop q.length (c.reader.pending ++ bytes)) left more fields [] c.fields
    k cut is at no_field refl refl l.goes refl (λ v whole. (l.leaves v whole).1)
goes_after limit stream c w read bytes left more last fields (progress.Prefix required) (Stays many) k cut l h going = absurd h
goes_after limit stream c w read bytes left more last fields (progress.Prefix required) (Gives f rest) k cut l h going = absurd h
goes_after limit stream c w read bytes left more last fields (progress.Prefix required) (Over many) k cut l h going = absurd h
goes_after limit stream c w read bytes left more last fields (progress.Prefix required) (Fails fault) k cut l h going = absurd h
goes_after limit stream c w read bytes left more last fields (progress.Blocked required) More k cut l h going = absurd h
goes_after limit stream c w read bytes left more last fields (progress.Blocked required) (Opens q) k cut l h going = absurd h
goes_after limit stream c w read bytes left more last fields (progress.Blocked required) (Stays many) k cut l (count, is, at, no_field) going =
    stays limit stream c read bytes left more fields k cut is at no_field
goes_after limit stream c w read bytes left more last fields (progress.Blocked required) (Gives f rest) k cut l h going = absurd h
goes_after limit stream c w read bytes left more last fields (progress.Blocked required) (Over many) k cut l h going = absurd h
goes_after limit stream c w read bytes left more last fields (progress.Blocked required) (Fails fault) k cut l h going = absurd h
goes_after limit stream c w read bytes left more last fields progress.Field More k cut l h going = absurd h
goes_after limit stream c w read bytes left more last fields progress.Field (Opens q) k cut l h going = absurd h
goes_after limit stream c w read bytes left more last fields progress.Field (Stays many) k cut l h going = absurd h
goes_after limit stream c w read bytes left more last fields progress.Field (Gives f rest) k cut l (is, at, shorter, one) going =
    to limit stream c (behind_line (length (c.reader.pending ++ bytes) - length rest) f.field c.reader) read bytes rest left
    more fields (f ∷ []) l.here.0 k cut is at one refl refl l.goes (ap (drop 1) l.here.1)
    (λ v whole. let x = l.leaves v whole in
    subst (λ (fs : List FieldLine). ReadsOrWaits fs c.sent.required (reading_on v limit
    (behind_line (length (c.reader.pending ++ bytes) - length rest) f.field c.reader) (rest ++ more)))
    (others_are f c.fields l.here.0 x.0 l.here.1 x.1) x.2)
goes_after limit stream c w read bytes left more last fields progress.Field (Over many) k cut l h going = absurd h
goes_after limit stream c w read bytes left more last fields progress.Field (Fails fault) k cut l h going = absurd h
goes_after limit stream c w read bytes left more last fields (progress.Ends required) More k cut l h going = absurd h
goes_after limit stream c w read bytes left more last fields (progress.Ends required) (Opens q) k cut l h going = absurd h
goes_after limit stream c w read bytes left more last fields (progress.Ends required) (Stays many) k cut l h going = absurd h
goes_after limit stream c w read bytes left more last fields (progress.Ends required) (Gives f rest) k cut l h going = absurd h
goes_after limit stream c w read bytes left more last fields (progress.Ends required) (Over many) k cut l h going = absurd (going required refl)
goes_after limit stream c w read bytes left more last fields (progress.Ends required) (Fails fault) k cut l h going = absurd h
