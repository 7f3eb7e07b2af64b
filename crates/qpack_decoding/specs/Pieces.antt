-- What a section gives whose bytes come in pieces: its prefix, then one field after the other, each as soon as its line
-- is whole (RFC 9204, sections 2.2.1 and 4.5).
use Rattle.std.specs.Prelude.{◌≡◌, ℕ, suc, ◌+◌, ◌-◌, ◌^◌, ◌<◌, ◌≤◌, min, max, Bool, true, false, not, ◌&&◌, if◌then◌else◌}
use Rattle.std.specs.Prelude.{◌⊎◌, ⊤, nat_lt, List, [], ◌∷◌, ◌++◌, length, drop, Option, None, Some, Result, Ok, Err}
use Rattle.qpack_spec.specs.Bytes.{Begins}
use Rattle.qpack_spec.specs.Field.{Field, FieldLine, field_size}
use Rattle.qpack_spec.specs.Form.{BadInteger}
use Rattle.qpack_spec.specs.Integer.{UnexpectedEnd}
use Rattle.qpack_spec.specs.LengthLaws.{longest_section}
use Rattle.qpack_spec.specs.Stateless.{saturated_size}
use Rattle.qpack_spec.specs.Reading.{BadForm}
use Rattle.qpack_spec.specs.StrictReading.{LineFault, Meaningless, SectionFault, InLine, LinesUnder, StrictReading, Read, Blocked}
use Rattle.qpack_spec.specs.StrictReading.{Refused, lines_behind, strict_line_at, strict_lines_at, strict_section_behind}
use Rattle.qpack_spec.specs.StrictReading as strict
use Rattle.qpack_spec.specs.Window.{Window, window_insert_count}
use Rattle.qpack_base.specs.Cursor.{CursorView}
use Rattle.qpack_base.specs.declared.coding.NoMemory.{NoMemory}
use Rattle.qpack_wire.specs.Memory.{AsksLine}
use Rattle.qpack_decoding.specs.FieldSections.{SectionView, LacksRoomWithin}
use Rattle.qpack_decoding.specs.SectionPrefixes.{strict_prefix}
use Rattle.qpack_decoding.specs.Lines.{FailsLine, Extends}
use Rattle.qpack_decoding.specs.Missing.{line_missing, prefix_missing}
use Rattle.qpack_decoding.specs.Sections.{TellsSection}
use Rattle.qpack_decoding.specs.declared.section.LineError.{LineError}
use Rattle.qpack_decoding.specs.declared.section.LineError.TheVariants as line
use Rattle.qpack_decoding.specs.declared.section.reader.Taken.{Taken}
use Rattle.qpack_decoding.specs.declared.section.SectionError.{SectionError}
use Rattle.qpack_decoding.specs.declared.section.SectionError.TheVariants.{Memory}
use Rattle.qpack_decoding.specs.declared.section.SectionPrefix.{SectionPrefix}
use Rattle.qpack_decoding.specs.declared.section.missing.Part.{Part}
use Rattle.qpack_decoding.specs.declared.section.missing.Part.TheVariants as part
use Rattle.qpack_decoding.specs.declared.section.reader.Progress.{Progress}
use Rattle.qpack_decoding.specs.declared.section.reader.Progress.TheVariants as progress

-- ---- the parts of a section

-- how many bytes a part that begins so lacks at least
abbrev pub missing_in : Part → List ℕ → ℕ
missing_in part.Prefix bytes = prefix_missing bytes
missing_in part.Line bytes = line_missing bytes

-- the part that comes next: a line, once the prefix was read
abbrev pub part_behind : Option SectionPrefix → Part
part_behind None = part.Prefix
part_behind (Some p) = part.Line

-- ---- a reader

-- a reader: the stream that the section comes on; the bytes that wait, of a prefix or of a line that is not whole; what
-- the prefix says, once it was read; how many lines were read, how many bytes of the section are before those that wait,
-- and the sum of the fields' sizes; and why the section was refused
pub record ReaderView : Type 0 where
  pub stream : ℕ
  pub pending : List ℕ
  pub prefix : Option SectionPrefix
  pub lines : ℕ
  pub offset : ℕ
  pub sum : ℕ
  pub failure : Option SectionError

-- a reader at the start of a section
abbrev pub fresh : ℕ → ReaderView
fresh stream =
    record {
      stream = stream;
      pending = [];
      prefix = None;
      lines = 0;
      offset = 0;
      sum = 0;
      failure = None;
    }

-- before the prefix no line was read, and nothing is before the bytes that wait; after it each line took a byte
abbrev pub IsPlaced : Option SectionPrefix → ReaderView → Type 0
IsPlaced None r = (r.lines ≡ 0) × (r.offset ≡ 0) × (r.sum ≡ 0)
IsPlaced (Some p) r = r.lines ≤ r.offset

-- what waits is not whole
pub record IsReading (r : ReaderView) : Type 0 where
  pub cut : 0 < missing_in (part_behind r.prefix) r.pending
  pub placed : IsPlaced r.prefix r

-- the reader after a prefix
abbrev pub opened : SectionPrefix → ReaderView → ReaderView
opened p r = record r { pending = []; prefix = Some p; offset = p.length }

-- the reader after a line of this many bytes
abbrev pub behind_line : ℕ → Field → ReaderView → ReaderView
behind_line len f r =
    record r {
      pending = [];
      lines = suc r.lines;
      offset = r.offset + len;
      sum = saturated_size (r.sum + field_size f);
    }

-- ---- the room of a reader

-- what was read of a section, and for how many bytes that wait there is memory
pub record KeptReader : Type 0 where
  pub section : ReaderView
  pub room : ℕ

-- what waits is not whole, and once nothing waits there is room for at most 64 bytes; an error that is kept is not out of
-- memory
pub record IsKept (r : KeptReader) : Type 0 where
  pub reading : IsReading r.section
  pub little : r.section.pending ≡ [] → r.room ≤ 64
  pub told : r.section.failure ≡ Some Memory → ⊥

-- what the lines are read under, of a section of this many bytes
abbrev pub lines_under : Window → ℕ → SectionPrefix → ℕ → LinesUnder
lines_under w limit p section =
    record { window = w; required = p.required; base = p.base; limit = limit; section = section }

-- ---- what comes next

-- nothing is whole, and more may come; the prefix; the section waits for this many insertions; the field of a line, and
-- the bytes after it; the end; or why the section is refused
pub data Next : Type 0 where
  More : Next
  Opens : (prefix : SectionPrefix) → Next
  Stays : (required : ℕ) → Next
  Gives : (field : FieldLine) (left : List ℕ) → Next
  Over : (required : ℕ) → Next
  Fails : (fault : SectionFault) → Next

-- the bytes may go on, and something is missing
abbrev pub goes_on : Bool → ℕ → Bool
goes_on last missing = not last && nat_lt 0 missing

-- what a prefix says
abbrev pub prefix_says : Result (ℕ × ℕ × ℕ) SectionFault → Next
prefix_says (Ok p) = Opens (record { required = p.0; base = p.1; length = p.2 })
prefix_says (Err fault) = Fails fault

-- what comes at a section's start
abbrev pub next_prefix : Window → Bool → List ℕ → Next
next_prefix w last bytes = if goes_on last (prefix_missing bytes) then More else prefix_says (strict_prefix w bytes)

-- the field of the next line, and the bytes after it; the sizes so far have this sum
unfoldable pub line_at : LinesUnder → ℕ → List ℕ → Result (FieldLine × List ℕ) LineFault
line_at u sum [] = Err (Meaningless (BadForm (BadInteger UnexpectedEnd)))
line_at u sum (b ∷ more) = strict_line_at u sum b more

-- what a line says, of this number and at this offset
abbrev pub line_says : ℕ → ℕ → Result (FieldLine × List ℕ) LineFault → Next
line_says number offset (Ok r) = Gives r.0 r.1
line_says number offset (Err fault) = Fails (InLine number offset fault)

-- what comes after a prefix, or after a line
abbrev pub next_line : LinesUnder → Bool → ReaderView → List ℕ → Next
next_line u last r [] = if last then Over u.required else More
next_line u last r (b ∷ more) =
    if goes_on last (line_missing (b ∷ more)) then More
    else line_says (suc r.lines) r.offset (line_at u r.sum (b ∷ more))

-- what comes after what was read
abbrev pub next_behind : Window → ℕ → Bool → ReaderView → Option SectionPrefix → List ℕ → Next
next_behind w limit last r None bytes = next_prefix w last bytes
next_behind w limit last r (Some p) bytes =
    if nat_lt (window_insert_count w) p.required then Stays p.required
    else next_line (lines_under w limit p 0) last r bytes

-- the most bytes of a section that are read under a limit
abbrev pub most_read : ℕ → ℕ
most_read limit = min (longest_section limit) (2 ^ 64 - 1)

-- what comes next of a section, of which these bytes are there that were not read; with `last` no more will come
unfoldable pub next_of : Window → ℕ → Bool → ReaderView → List ℕ → Next
next_of w limit last r bytes =
    if nat_lt (most_read limit) (r.offset + length bytes) then Fails strict.TooLong
    else next_behind w limit last r r.prefix bytes

-- no more bytes wait than before, or than a section within a limit can have behind what was read, and there is memory for
-- no more
pub record KeepsWithin (limit : ℕ) (old new : KeptReader) : Type 0 where
  pub bytes : new.section.offset + length new.section.pending
      ≤ max (old.section.offset + length old.section.pending) (most_read limit)
  pub room : new.room ≤ max old.room (most_read limit)

-- bytes are appended to those that wait, since some do or since more must come; and there is no room for all of them
pub record LacksRoomToWait (more : Bool) (room : ℕ) (old bytes : List ℕ) : Type 0 where
  pub kept : (more ≡ true) ⊎ (0 < length old)
  pub lacks : room < length old + length bytes

-- a line asks for memory, and there is less room for its field than one within the limit can use
pub record NeedsMemoryForLine (limit : ℕ) (r : ReaderView) (bytes : List ℕ) (fields : SectionView) : Type 0 where
  pub behind : part_behind r.prefix ≡ part.Line
  pub asks : Begins AsksLine (r.pending ++ bytes)
  pub lacks : LacksRoomWithin limit fields

-- memory is needed to find a line in bytes after those that wait: for bytes that wait, or for a line that is read
abbrev pub NeedsMemoryToFind : Bool → ℕ → ℕ → List ℕ → List ℕ → SectionView → Type 0
NeedsMemoryToFind last limit room old bytes fields =
    LacksRoomToWait (goes_on last (line_missing (old ++ bytes))) room old bytes
    ⊎ ((goes_on last (line_missing (old ++ bytes)) ≡ false) × Begins AsksLine (old ++ bytes)
    × LacksRoomWithin limit fields)

-- memory is needed for what comes next: for bytes that wait, or for a line
abbrev pub NeedsMemoryForNext : Next → ℕ → KeptReader → List ℕ → SectionView → Type 0
NeedsMemoryForNext (Stays required) limit r bytes fields = ⊥
NeedsMemoryForNext (Over required) limit r bytes fields = ⊥
NeedsMemoryForNext More limit r bytes fields = LacksRoomToWait true r.room r.section.pending bytes
NeedsMemoryForNext (Opens p) limit r bytes fields = LacksRoomToWait false r.room r.section.pending bytes
NeedsMemoryForNext (Gives f left) limit r bytes fields =
    LacksRoomToWait false r.room r.section.pending bytes ⊎ NeedsMemoryForLine limit r.section bytes fields
NeedsMemoryForNext (Fails fault) limit r bytes fields =
    LacksRoomToWait false r.room r.section.pending bytes ⊎ NeedsMemoryForLine limit r.section bytes fields

-- memory is needed to read on: the section was not refused and is not too long, and what comes next needs it
pub record NeedsMemoryToReadOn (w : Window) (limit : ℕ) (last : Bool) (r : KeptReader) (bytes : List ℕ)
    (fields : SectionView) : Type 0 where
  pub live : r.section.failure ≡ None
  pub within : r.section.offset + length r.section.pending + length bytes ≤ most_read limit
  pub next : NeedsMemoryForNext (next_of w limit last r.section (r.section.pending ++ bytes)) limit r bytes fields

-- the error reports why the section is refused, or out of memory
abbrev pub FailsNext : SectionError → Next → Type 0
FailsNext Memory next = Unit {0}
FailsNext e (Fails fault) = TellsSection e fault
FailsNext e next = ⊥

-- ---- the bytes of a part

-- the bytes that are read: those that wait, or if none does those that come
abbrev pub front_of : List ℕ → List ℕ → List ℕ
front_of [] bytes = bytes
front_of (b ∷ pending) bytes = b ∷ pending

-- enough is there to read a part, and this is at the front of all; or all bytes are
pub record IsEnough (part : Part) (last : Bool) (all there : List ℕ) : Type 0 where
  pub more : List ℕ
  pub cut : all ≡ there ++ more
  pub reads : goes_on last (missing_in part there) ≡ false
  pub whole : (more ≡ []) ⊎ (missing_in part there ≡ 0)

-- bytes were appended to those that wait: enough to read a part; or all, and more must come
abbrev pub Gathers : Part → Bool → List ℕ → List ℕ → List ℕ → Result Bool NoMemory → Type 0
Gathers part last old new bytes (Ok true) = IsEnough part last (old ++ bytes) (front_of new bytes) × Extends old new
Gathers part last old new bytes (Ok false) =
    (goes_on last (missing_in part (old ++ bytes)) ≡ true) × (new ≡ old ++ bytes)
Gathers part last old new bytes (Err e) = Extends old new

-- the prefix was found, and nothing waits any more; or all bytes wait; or why it is refused
abbrev pub FindsPrefix : Window → Bool → List ℕ → List ℕ → List ℕ → Result (Option SectionPrefix) SectionError → Type 0
FindsPrefix w last old new bytes (Ok (Some p)) =
    (next_prefix w last (old ++ bytes) ≡ Opens p) × (new ≡ []) × (length old < p.length)
    × (p.length ≤ length old + length bytes)
FindsPrefix w last old new bytes (Ok None) = (next_prefix w last (old ++ bytes) ≡ More) × (new ≡ old ++ bytes)
FindsPrefix w last old new bytes (Err e) = FailsNext e (next_prefix w last (old ++ bytes)) × (new ≡ old)

-- the same; on error bytes may have been appended to those that wait
abbrev pub GathersPrefix : Window → Bool → List ℕ → List ℕ → List ℕ → Result (Option SectionPrefix) SectionError → Type 0
GathersPrefix w last old new bytes (Ok found) = FindsPrefix w last old new bytes (Ok found)
GathersPrefix w last old new bytes (Err e) = FailsNext e (next_prefix w last (old ++ bytes)) × Extends old new

-- the field of a line was read, and is all that the fields have; or why not, and there is none
abbrev pub ReadsOneLine : CursorView → CursorView → List FieldLine → ℕ → Result ℕ LineError
    → Result (FieldLine × List ℕ) LineFault → Type 0
ReadsOneLine old new fields sum (Ok with) read =
    (f : FieldLine) × (read ≡ Ok (f, new.rest)) × (fields ≡ f ∷ []) × (with ≡ saturated_size (sum + field_size f.field))
    × (length new.rest < length old.rest) × (new.total ≡ old.total)
ReadsOneLine old new fields sum (Err e) read = FailsLine e read × (fields ≡ [])

-- why a line is refused, that is read; or out of memory
abbrev pub StopsLine : LineError → LinesUnder → ℕ → Bool → List ℕ → Type 0
StopsLine line.Memory u sum last all = Unit {0}
StopsLine e u sum last all = (goes_on last (line_missing all) ≡ false) × FailsLine e (line_at u sum all)

-- a line was found, and its field is all that the fields have; or all bytes wait; or why it is refused
abbrev pub FindsLine : LinesUnder → ℕ → Bool → List ℕ → List ℕ → List ℕ → List FieldLine
    → Result (Option Taken) LineError → Type 0
FindsLine u sum last old new bytes fields (Ok (Some taken)) =
    (f : FieldLine) × (left : List ℕ) × (line_at u sum (old ++ bytes) ≡ Ok (f, left)) × (fields ≡ f ∷ []) × (new ≡ [])
    × (goes_on last (line_missing (old ++ bytes)) ≡ false)
    × (taken.len + length left ≡ length old + length bytes) × (length left < length bytes)
    × (left ≡ drop (length bytes - length left) bytes) × (taken.sum ≡ saturated_size (sum + field_size f.field))
FindsLine u sum last old new bytes fields (Ok None) =
    (goes_on last (line_missing (old ++ bytes)) ≡ true) × (new ≡ old ++ bytes) × (fields ≡ [])
FindsLine u sum last old new bytes fields (Err e) =
    StopsLine e u sum last (old ++ bytes) × (new ≡ old) × (fields ≡ [])

-- the same; on error bytes may have been appended to those that wait
abbrev pub GathersLine : LinesUnder → ℕ → Bool → List ℕ → List ℕ → List ℕ → List FieldLine
    → Result (Option Taken) LineError → Type 0
GathersLine u sum last old new bytes fields (Ok found) = FindsLine u sum last old new bytes fields (Ok found)
GathersLine u sum last old new bytes fields (Err e) =
    StopsLine e u sum last (old ++ bytes) × Extends old new × (fields ≡ [])

-- the reader after an error, which is kept unless it is out of memory
abbrev pub kept_failure : SectionError → ReaderView → ReaderView
kept_failure Memory r = r
kept_failure e r = record r { failure = Some e }

-- bytes were appended to those that wait: those that a part lacks, or all; or memory was refused for them
abbrev pub AppendsMissing : Part → List ℕ → List ℕ → List ℕ → Result ⊤ NoMemory → Type 0
AppendsMissing part old new bytes (Ok done) =
    (more : List ℕ) × (old ++ bytes ≡ new ++ more) × Extends old new × ((more ≡ []) ⊎ (missing_in part new ≡ 0))
AppendsMissing part old new bytes (Err e) = Extends old new

-- ---- a call

-- what a call makes of what comes next: of all bytes that are there these are left. Refused memory changes nothing
abbrev pub Answers : Next → ReaderView → ReaderView → List ℕ → List ℕ → List ℕ → List FieldLine
    → Result Progress SectionError → Type 0
Answers next old new all bytes left fields (Err Memory) = (new ≡ old) × (left ≡ bytes) × (fields ≡ [])
Answers More old new all bytes left fields (Ok progress.Waits) =
    (new ≡ record old { pending = all }) × (left ≡ []) × (fields ≡ [])
Answers (Opens p) old new all bytes left fields (Ok (progress.Prefix required)) =
    (required ≡ p.required) × (new ≡ opened p old) × (left ≡ drop p.length all) × (fields ≡ [])
Answers (Stays required) old new all bytes left fields (Ok (progress.Blocked many)) =
    (many ≡ required) × (new ≡ old) × (left ≡ bytes) × (fields ≡ [])
Answers (Gives f rest) old new all bytes left fields (Ok progress.Field) =
    (new ≡ behind_line (length all - length rest) f.field old) × (left ≡ rest) × (length left < length bytes)
    × (fields ≡ f ∷ [])
Answers (Over required) old new all bytes left fields (Ok (progress.Ends many)) =
    (many ≡ required) × (new ≡ old) × (left ≡ bytes) × (fields ≡ [])
Answers (Fails fault) old new all bytes left fields (Err e) =
    TellsSection e fault × (new ≡ record old { failure = Some e }) × (left ≡ bytes) × (fields ≡ [])
Answers next old new all bytes left fields r = ⊥

-- what a call makes of bytes after those that wait; a section that was refused stays refused
abbrev pub ReadsOn : Window → ℕ → Bool → ReaderView → ReaderView → List ℕ → List ℕ → List FieldLine
    → Result Progress SectionError → Option SectionError → Type 0
ReadsOn w limit last old new bytes left fields r (Some e) =
    (r ≡ Err e) × (new ≡ old) × (left ≡ bytes) × (fields ≡ [])
ReadsOn w limit last old new bytes left fields r None =
    Answers (next_of w limit last old (old.pending ++ bytes)) old new (old.pending ++ bytes) bytes left fields r
