-- What a section read in pieces has of the reading of the whole, as statements; the crate's law functions promise them
-- (RFC 9204, sections 2.2.1 and 4.5).
use Rattle.std.specs.Prelude.{◌≡◌, ℕ, ◌+◌, ◌-◌, ◌^◌, ◌≤◌, ◌⊎◌, Bool, true, if◌then◌else◌, nat_lt, List, [], ◌∷◌, ◌++◌, length, drop}
use Rattle.std.specs.List.{AllByRecursion}
use Rattle.std.specs.Prelude.{Option, None, Some}
use Rattle.qpack_spec.specs.Field.{FieldLine}
use Rattle.qpack_spec.specs.Prefix.{prefix_at}
use Rattle.qpack_spec.specs.StrictReading.{StrictReading, Read, Blocked, Refused, lines_behind, strict_lines_at}
use Rattle.qpack_spec.specs.StrictReading.{strict_reading, strict_section_behind}
use Rattle.qpack_spec.specs.Window.{Window, window_insert_count}
use Rattle.qpack_decoding.specs.Pieces.{ReaderView, IsReading, Next, More, Opens, Stays, Gives, Over, Fails}
use Rattle.qpack_decoding.specs.Pieces.{fresh, opened, behind_line, lines_under, most_read, next_of}
use Rattle.qpack_decoding.specs.declared.section.SectionPrefix.{SectionPrefix}

-- ---- the reading of what is still to come

-- of these bytes, after what was read
abbrev pub reading_behind : Window → ℕ → ReaderView → Option SectionPrefix → List ℕ → StrictReading
reading_behind w limit r None bytes = strict_section_behind w limit (length bytes) (prefix_at bytes)
reading_behind w limit r (Some p) bytes =
    if nat_lt (window_insert_count w) p.required then Blocked p.required
    else lines_behind p.required
    (strict_lines_at (length bytes) (lines_under w limit p (r.offset + length bytes)) r.lines r.sum bytes)

-- of the bytes that wait, and of those that come
abbrev pub reading_on : Window → ℕ → ReaderView → List ℕ → StrictReading
reading_on w limit r rest = reading_behind w limit r r.prefix (r.pending ++ rest)

-- a reading with a field before its others
abbrev pub with_field : FieldLine → StrictReading → StrictReading
with_field f (Read fields required) = Read (f ∷ fields) required
with_field f read = read

-- what comes next of all bytes that are there leaves the reading of them, and of those that follow, as it is
abbrev pub KeepsReading : Window → ℕ → ReaderView → List ℕ → List ℕ → StrictReading → Next → Type 0
KeepsReading w limit r all more read More = read ≡ reading_on w limit (record r { pending = all }) more
KeepsReading w limit r all more read (Opens p) = read ≡ reading_on w limit (opened p r) (drop p.length all ++ more)
KeepsReading w limit r all more read (Stays required) = read ≡ Blocked required
KeepsReading w limit r all more read (Gives f left) =
    read ≡ with_field f (reading_on w limit (behind_line (length all - length left) f.field r) (left ++ more))
KeepsReading w limit r all more read (Over required) = read ≡ Read [] required
KeepsReading w limit r all more read (Fails fault) = read ≡ Refused fault

-- whatever follows: each step under a window gives a part of the reading under it, or its fault
abbrev pub PiecesKeepTheReading : Type 0
PiecesKeepTheReading =
    (w : Window) (limit : ℕ) (last : Bool) (r : ReaderView) (bytes more : List ℕ) → IsReading r
    → (last ≡ true → more ≡ []) → r.offset + length (r.pending ++ bytes ++ more) ≤ most_read limit
    → KeepsReading w limit r (r.pending ++ bytes) more (reading_on w limit r (bytes ++ more))
    (next_of w limit last r (r.pending ++ bytes))

-- ---- under windows that differ

-- bytes are read as these fields, or wait
abbrev pub ReadsOrWaits : List FieldLine → ℕ → StrictReading → Type 0
ReadsOrWaits fields required read = (read ≡ Read fields required) ⊎ (read ≡ Blocked required)

-- under a window that may be another's, what comes next leaves the fields behind it, or is the end of all
abbrev pub LeavesReading : Window → ℕ → ReaderView → List ℕ → List ℕ → List FieldLine → ℕ → Next → Type 0
LeavesReading w limit r all more fields required More =
    ReadsOrWaits fields required (reading_on w limit (record r { pending = all }) more)
LeavesReading w limit r all more fields required (Opens p) =
    (p.required ≡ required) × ReadsOrWaits fields required (reading_on w limit (opened p r) (drop p.length all ++ more))
LeavesReading w limit r all more fields required (Stays many) = many ≡ required
LeavesReading w limit r all more fields required (Gives f left) =
    (others : List FieldLine) × (fields ≡ f ∷ others)
    × ReadsOrWaits others required
    (reading_on w limit (behind_line (length all - length left) f.field r) (left ++ more))
LeavesReading w limit r all more fields required (Over many) = (fields ≡ []) × (many ≡ required)
LeavesReading w limit r all more fields required (Fails fault) = ⊥

-- a section that two windows read as the same fields, or with which they wait: a call under one leaves what the other
-- reads
abbrev pub PiecesLeaveTheReading : Type 0
PiecesLeaveTheReading =
    (w other : Window) (limit : ℕ) (last : Bool) (r : ReaderView) (bytes more : List ℕ) (fields : List FieldLine)
    (required : ℕ) → IsReading r → (last ≡ true → more ≡ [])
    → r.offset + length (r.pending ++ bytes ++ more) ≤ most_read limit
    → ReadsOrWaits fields required (reading_on w limit r (bytes ++ more))
    → ReadsOrWaits fields required (reading_on other limit r (bytes ++ more))
    → LeavesReading other limit r (r.pending ++ bytes) more fields required
    (next_of w limit last r (r.pending ++ bytes))

-- ---- calls in turn

-- a call: its window, the bytes after those of the calls before, and whether they are the last
pub record PieceCall : Type 0 where
  pub window : Window
  pub bytes : List ℕ
  pub last : Bool

-- what comes next is the first of the fields, or the end of all, and later calls give the others; with a section that
-- waits the same bytes are passed again
abbrev pub GivesNext : (ReaderView → List ℕ → List FieldLine → Type 0) → ReaderView → List ℕ → List ℕ → List ℕ
    → List FieldLine → ℕ → Next → Type 0
GivesNext later r all bytes more fields required More = later (record r { pending = all }) more fields
GivesNext later r all bytes more fields required (Opens p) =
    (p.required ≡ required) × later (opened p r) (drop p.length all ++ more) fields
GivesNext later r all bytes more fields required (Stays many) = (many ≡ required) × later r (bytes ++ more) fields
GivesNext later r all bytes more fields required (Gives f left) =
    (others : List FieldLine) × (fields ≡ f ∷ others)
    × later (behind_line (length all - length left) f.field r) (left ++ more) others
GivesNext later r all bytes more fields required (Over many) = (fields ≡ []) × (many ≡ required)
GivesNext later r all bytes more fields required (Fails fault) = ⊥

-- calls that pass these bytes give these fields in turn, and nothing else
abbrev pub GiveInTurn : ℕ → ℕ → List PieceCall → ReaderView → List ℕ → List FieldLine → Type 0
GiveInTurn limit required [] r rest fields = Unit {0}
GiveInTurn limit required (c ∷ calls) r rest fields =
    (more : List ℕ) → rest ≡ c.bytes ++ more → (c.last ≡ true → more ≡ [])
    → GivesNext (GiveInTurn limit required calls) r (r.pending ++ c.bytes) c.bytes more fields required
    (next_of c.window limit c.last r (r.pending ++ c.bytes))

-- calls go on with a section that the window of each reads as these fields, or that waits under it
abbrev pub PiecesGiveTheFields : Type 0
PiecesGiveTheFields =
    (limit required : ℕ) (calls : List PieceCall) (r : ReaderView) (rest : List ℕ) (fields : List FieldLine) → IsReading r
    → r.offset + length (r.pending ++ rest) ≤ most_read limit
    → AllByRecursion (λ c. ReadsOrWaits fields required (reading_on c.window limit r rest)) calls
    → GiveInTurn limit required calls r rest fields

-- calls may be made while the peer inserts. If the whole section is read under the window of each call as these fields, or
-- waits, as a lawful encoder's does (`ReadsLawfully`), its pieces give these fields in turn
abbrev pub PiecesGiveTheSection : Type 0
PiecesGiveTheSection =
    (stream limit required : ℕ) (calls : List PieceCall) (bytes : List ℕ) (fields : List FieldLine)
    → length bytes ≤ 2 ^ 64 - 1
    → AllByRecursion (λ c. ReadsOrWaits fields required (strict_reading c.window limit bytes)) calls
    → GiveInTurn limit required calls (fresh stream) bytes fields
