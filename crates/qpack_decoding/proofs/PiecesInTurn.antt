-- Calls in turn, under windows that read a section alike, give its fields in turn.
use Rattle.std.proofs.Common.{◌≡◌, ℕ, suc, ◌+◌, ◌-◌, ◌<◌, ◌≤◌, Bool, true, false, cond, List, [], ◌∷◌, ◌++◌, length}
use Rattle.std.proofs.Common.{drop, Option, None, Some, Result, Ok, Err, refl, sym, ap, ◌∙◌, arith, append_assoc, subst}
use Rattle.std.proofs.Common.{length-append}
use Rattle.std.specs.List.{AllByRecursion}
use Rattle.std.specs.Prelude.{nat_lt}
use Rattle.std.proofs.lemmas.Bool.{ltb-true, ltb-false, le-leb}
use Rattle.std.proofs.lemmas.List.{length-drop}
use Rattle.qpack_spec.specs.Field.{FieldLine}
use Rattle.qpack_spec.specs.LengthLaws.{longest_section}
use Rattle.qpack_spec.specs.Prefix.{prefix_at}
use Rattle.qpack_spec.specs.StrictReading.{LineFault, SectionFault, StrictReading, Refused, TooLong, strict_reading}
use Rattle.qpack_spec.specs.StrictReading.{strict_section_behind}
use Rattle.qpack_spec.specs.Window.{Window, window_insert_count}
use Rattle.qpack_decoding.specs.Missing.{line_missing, prefix_missing}
use Rattle.qpack_decoding.specs.PieceLaws.{reading_on, ReadsOrWaits, LeavesReading, PieceCall, GivesNext, GiveInTurn}
use Rattle.qpack_decoding.specs.PieceLaws.{PiecesGiveTheFields, PiecesGiveTheSection}
use Rattle.qpack_decoding.specs.Pieces.{ReaderView, fresh, IsReading, IsPlaced, missing_in, part_behind, opened, behind_line}
use Rattle.qpack_decoding.specs.Pieces.{lines_under, Next, More, Opens, Stays, Gives, Over, Fails, goes_on, line_at, line_says}
use Rattle.qpack_decoding.specs.Pieces.{prefix_says, next_prefix, next_line, next_behind, next_of, most_read}
use Rattle.qpack_decoding.specs.SectionPrefixes.{strict_prefix}
use Rattle.qpack_decoding.specs.declared.section.SectionPrefix.{SectionPrefix}
use Rattle.qpack_decoding.proofs.MissingParts.{line_takes, prefix_takes}
use Rattle.qpack_decoding.proofs.PieceParts.{next_within}
use Rattle.qpack_decoding.proofs.PieceSteps.{no_prefix_waits, none_waits, shorter_front}
use Rattle.qpack_decoding.proofs.PieceWindows.{never_refused, pieces_leave}

-- ---- the reader after a call

-- a reader, and what is to come of its section
pub record IsOn (limit : ℕ) (r : ReaderView) (rest : List ℕ) : Type 0 where
  pub reading : IsReading r
  pub fits : r.offset + length (r.pending ++ rest) ≤ most_read limit

abbrev pub GoesOn : ℕ → ReaderView → List ℕ → List ℕ → Next → Type 0
GoesOn limit r all more More = IsOn limit (record r { pending = all }) more
GoesOn limit r all more (Opens p) = IsOn limit (opened p r) (drop p.length all ++ more)
GoesOn limit r all more (Gives f left) =
    IsOn limit (behind_line (length all - length left) f.field r) (left ++ more)
GoesOn limit r all more next = Unit {0}

reading_at : (o : Option SectionPrefix) (r : ReaderView) → r.prefix ≡ o → 0 < missing_in (part_behind o) r.pending
    → IsPlaced o r → IsReading r
reading_at o r known cut placed =
    record {
      cut = subst (λ (x : Option SectionPrefix). 0 < missing_in (part_behind x) r.pending) (sym known) cut;
      placed = subst (λ (x : Option SectionPrefix). IsPlaced x r) (sym known) placed;
    }

goes_on_cuts : (last : Bool) (missing : ℕ) → goes_on last missing ≡ true → 0 < missing
goes_on_cuts true missing e = absurd cc
goes_on_cuts false missing e = ltb-true 0 missing e

prefix_goes_on : (w : Window) (limit : ℕ) (last : Bool) (r : ReaderView) (all more : List ℕ) → r.prefix ≡ None
    → IsPlaced None r → r.offset + length (all ++ more) ≤ most_read limit
    → GoesOn limit r all more (next_prefix w last all)
prefix_goes_on w limit last r all more known placed fits = pick (goes_on last (prefix_missing all)) refl
  where
    said : (x : Result (ℕ × ℕ × ℕ) SectionFault) → strict_prefix w all ≡ x → GoesOn limit r all more (prefix_says x)
    said (Err fault) e = tt
    said (Ok p) e =
        let new : SectionPrefix = record { required = p.0; base = p.1; length = p.2 } in
        let takes = prefix_takes w [] all p no_prefix_waits e in
        record {
          reading = reading_at (Some new) (opened new r) refl none_waits (omega (arith, placed.0));
          fits = omega (
            arith,
            fits,
            takes.1,
            length-append all more,
            length-append (drop p.2 all) more,
            length-drop p.2 all,
          );
        }

    pick : (t : Bool) → goes_on last (prefix_missing all) ≡ t
        → GoesOn limit r all more (cond t More (prefix_says (strict_prefix w all)))
    pick true e = record {
      reading = reading_at None (record r { pending = all }) known (goes_on_cuts last (prefix_missing all) e) placed;
      fits = fits;
    }
    pick false e = said (strict_prefix w all) refl

lines_go_on : (w : Window) (limit : ℕ) (last : Bool) (r : ReaderView) (p : SectionPrefix) (all more : List ℕ)
    → r.prefix ≡ Some p → IsPlaced (Some p) r → r.offset + length (all ++ more) ≤ most_read limit
    → GoesOn limit r all more (next_line (lines_under w limit p 0) last r all)
lines_go_on w limit true r p [] more known placed fits = tt
lines_go_on w limit false r p [] more known placed fits =
    record { reading = reading_at (Some p) (record r { pending = [] }) known none_waits placed; fits = fits }
lines_go_on w limit last r p (b ∷ rest) more known placed fits = pick (goes_on last (line_missing (b ∷ rest))) refl
  where
    said : (x : Result (FieldLine × List ℕ) LineFault) → line_at (lines_under w limit p 0) r.sum (b ∷ rest) ≡ x
        → GoesOn limit r (b ∷ rest) more (line_says (suc r.lines) r.offset x)
    said (Err fault) e = tt
    said (Ok x) e =
        let shorter = line_takes (lines_under w limit p 0) r.sum [] (b ∷ rest) x.1 x.0 none_waits e in
        let new = behind_line (length (b ∷ rest) - length x.1) x.0.field r in
        record {
          reading = reading_at (Some p) new known none_waits (omega (arith, placed, shorter));
          fits = omega (arith, fits, shorter, length-append (b ∷ rest) more, length-append x.1 more);
        }

    pick : (t : Bool) → goes_on last (line_missing (b ∷ rest)) ≡ t
        → GoesOn limit r (b ∷ rest) more
        (cond t More (line_says (suc r.lines) r.offset (line_at (lines_under w limit p 0) r.sum (b ∷ rest))))
    pick true e = record {
      reading = reading_at (Some p) (record r { pending = b ∷ rest }) known
          (goes_on_cuts last (line_missing (b ∷ rest)) e) placed;
      fits = fits;
    }
    pick false e = said (line_at (lines_under w limit p 0) r.sum (b ∷ rest)) refl

behind_goes_on : (o : Option SectionPrefix) (w : Window) (limit : ℕ) (last : Bool) (r : ReaderView) (all more : List ℕ)
    → r.prefix ≡ o → IsPlaced o r → r.offset + length (all ++ more) ≤ most_read limit
    → GoesOn limit r all more (next_behind w limit last r o all)
behind_goes_on None w limit last r all more known placed fits = prefix_goes_on w limit last r all more known placed fits
behind_goes_on (Some p) w limit last r all more known placed fits = pick (nat_lt (window_insert_count w) p.required)
  where
    pick : (t : Bool) → GoesOn limit r all more
        (cond t (Stays p.required) (next_line (lines_under w limit p 0) last r all))
    pick true = tt
    pick false = lines_go_on w limit last r p all more known placed fits

pub next_goes_on : (w : Window) (limit : ℕ) (last : Bool) (r : ReaderView) (bytes more : List ℕ) → IsReading r
    → r.offset + length (r.pending ++ bytes ++ more) ≤ most_read limit
    → GoesOn limit r (r.pending ++ bytes) more (next_of w limit last r (r.pending ++ bytes))
next_goes_on w limit last r bytes more k fits =
    let short : r.offset + length r.pending + length bytes ≤ most_read limit =
    shorter_front r.offset (most_read limit) r.pending bytes more fits in
    subst (GoesOn limit r (r.pending ++ bytes) more)
    (sym (next_within w limit last r bytes
    (le-leb (r.offset + length r.pending + length bytes) (most_read limit) short)))
    (behind_goes_on r.prefix w limit last r (r.pending ++ bytes) more refl k.placed fits)

-- ---- calls in turn

-- what holds of each holds of each of all
each : (P Q : PieceCall → Type 0) → ((c : PieceCall) → P c → Q c) → (calls : List PieceCall) → AllByRecursion P calls
    → AllByRecursion Q calls
each P Q by [] all = tt
each P Q by (c ∷ calls) all = (by c all.0, each P Q by calls all.1)

gives_next : (limit required : ℕ) (w : Window) (calls : List PieceCall) (r : ReaderView) (bytes more : List ℕ)
    (fields : List FieldLine) (next : Next)
    → ((s : ReaderView) (left : List ℕ) (others : List FieldLine) → IsReading s
    → s.offset + length (s.pending ++ left) ≤ most_read limit
    → AllByRecursion (λ d. ReadsOrWaits others required (reading_on d.window limit s left)) calls
    → GiveInTurn limit required calls s left others)
    → LeavesReading w limit r (r.pending ++ bytes) more fields required next
    → AllByRecursion (λ d. LeavesReading d.window limit r (r.pending ++ bytes) more fields required next) calls
    → GoesOn limit r (r.pending ++ bytes) more next → GiveInTurn limit required calls r (bytes ++ more) fields
    → GivesNext (GiveInTurn limit required calls) r (r.pending ++ bytes) bytes more fields required next
gives_next limit required w calls r bytes more fields More later here there on again =
    later (record r { pending = r.pending ++ bytes }) more fields on.reading on.fits there
gives_next limit required w calls r bytes more fields (Opens p) later here there on again =
    let all = r.pending ++ bytes in (
      here.0,
      later (opened p r) (drop p.length all ++ more) fields on.reading on.fits
          (each (λ d. (p.required ≡ required)
          × ReadsOrWaits fields required (reading_on d.window limit (opened p r) (drop p.length all ++ more)))
          (λ d. ReadsOrWaits fields required (reading_on d.window limit (opened p r) (drop p.length all ++ more)))
          (λ d both. both.1) calls there),
    )
gives_next limit required w calls r bytes more fields (Stays many) later here there on again = (here, again)
gives_next limit required w calls r bytes more fields (Gives f left) later here there on again =
    let all = r.pending ++ bytes in
    let new = behind_line (length all - length left) f.field r in (
      here.0,
      here.1,
      later new (left ++ more) here.0 on.reading on.fits
          (each (λ d. LeavesReading d.window limit r all more fields required (Gives f left))
          (λ d. ReadsOrWaits here.0 required (reading_on d.window limit new (left ++ more)))
          (λ d x. subst (λ (others : List FieldLine). ReadsOrWaits others required (reading_on d.window limit new (left ++ more)))
          (same_others f fields x.0 here.0 x.1 here.1) x.2) calls there),
    )
  where
    same_others : (f : FieldLine) (fields others rest : List FieldLine) → fields ≡ f ∷ others → fields ≡ f ∷ rest
        → others ≡ rest
    same_others f fields others rest a b = let same : (f ∷ others) ≡ (f ∷ rest) = sym a ∙ b in cc
gives_next limit required w calls r bytes more fields (Over many) later here there on again = here
gives_next limit required w calls r bytes more fields (Fails fault) later here there on again = absurd here

pub pieces_give : PiecesGiveTheFields
pieces_give limit required [] r rest fields k fits reads = tt
pieces_give limit required (c ∷ calls) r rest fields k fits reads =
    λ more cut ends.
    let w = c.window in
    let all = r.pending ++ c.bytes in
    let assoc : r.pending ++ rest ≡ all ++ more =
    ap (λ (x : List ℕ). r.pending ++ x) cut ∙ sym (append_assoc r.pending c.bytes more) in
    let within : r.offset + length (r.pending ++ c.bytes ++ more) ≤ most_read limit =
    subst (λ (x : List ℕ). r.offset + length x ≤ most_read limit) assoc fits in
    let here : ReadsOrWaits fields required (reading_on w limit r (c.bytes ++ more)) =
    subst (λ (x : List ℕ). ReadsOrWaits fields required (reading_on w limit r x)) cut reads.0 in
    let leave = λ (d : PieceCall) (x : ReadsOrWaits fields required (reading_on d.window limit r rest)).
    pieces_leave w d.window limit c.last r c.bytes more fields required k ends within here
    (subst (λ (x : List ℕ). ReadsOrWaits fields required (reading_on d.window limit r x)) cut x) in
    gives_next limit required w calls r c.bytes more fields (next_of w limit c.last r all)
    (pieces_give limit required calls)
    (leave c reads.0)
    (each (λ d. ReadsOrWaits fields required (reading_on d.window limit r rest))
    (λ d. LeavesReading d.window limit r all more fields required (next_of w limit c.last r all)) leave calls reads.1)
    (next_goes_on w limit c.last r c.bytes more k within)
    (subst (λ (x : List ℕ). GiveInTurn limit required calls r x fields) cut
    (pieces_give limit required calls r rest fields k fits reads.1))

-- ---- from the start of a section

-- what is read whole, or waits, is within the limit
pub whole_is : (w : Window) (limit required : ℕ) (bytes : List ℕ) (fields : List FieldLine)
    → ReadsOrWaits fields required (strict_reading w limit bytes)
    → (length bytes ≤ longest_section limit)
    × ReadsOrWaits fields required (strict_section_behind w limit (length bytes) (prefix_at bytes))
unfolding strict_reading
whole_is w limit required bytes fields reads = pick (nat_lt (longest_section limit) (length bytes)) refl reads
  where
    behind : StrictReading
    behind = strict_section_behind w limit (length bytes) (prefix_at bytes)

    pick : (t : Bool) → nat_lt (longest_section limit) (length bytes) ≡ t
        → ReadsOrWaits fields required (cond t (Refused TooLong) behind)
        → (length bytes ≤ longest_section limit) × ReadsOrWaits fields required behind
    pick true e h = absurd (never_refused fields required TooLong h)
    pick false e h = (ltb-false (longest_section limit) (length bytes) e, h)

pub pieces_give_all : PiecesGiveTheSection
pieces_give_all stream limit required [] bytes fields short reads = tt
pieces_give_all stream limit required (c ∷ calls) bytes fields short reads =
    let first = whole_is c.window limit required bytes fields reads.0 in
    let fits : 0 + length bytes ≤ most_read limit = omega (arith, first.0, short) in
    pieces_give limit required (c ∷ calls) (fresh stream) bytes fields
    (record { cut = no_prefix_waits; placed = (refl, refl, refl) }) fits
    (each (λ d. ReadsOrWaits fields required (strict_reading d.window limit bytes))
    (λ d. ReadsOrWaits fields required (reading_on d.window limit (fresh stream) bytes))
    (λ d h. (whole_is d.window limit required bytes fields h).1) (c ∷ calls) reads)
