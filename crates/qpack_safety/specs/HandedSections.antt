-- What the sections that the encoder of two strict ends wrote are read to in bytes (RFC 9204, sections 2.2.1, 4.5 and
-- 7.1.3).
use Rattle.std.specs.Prelude.{◌≡◌, ◌<◌, ◌≤◌, ◌^◌, ℕ, false, if◌then◌else◌, nat_eq, List, [], ◌∷◌, ◌++◌, length, Some}
use Rattle.std.specs.Prelude.{slice_get}
use Rattle.std.specs.List.{AllByRecursion}
use Rattle.qpack_spec.specs.Field.{FieldLine, fields_of_lines, total_size}
use Rattle.qpack_spec.specs.Marked.{coded_marked_block}
use Rattle.qpack_spec.specs.MarkedLaws.{AreLiteralsWhereMarked}
use Rattle.qpack_rules.specs.Session.{stream_at, oldest_undecoded}
use Rattle.qpack_spec.specs.StrictReading.{StrictReading, strict_reading, Read, Blocked, Refused, TooLong, InLine}
use Rattle.qpack_spec.specs.StrictReading.{TooLarge}
use Rattle.qpack_spec.specs.Text.{Coding}
use Rattle.qpack_spec.specs.Window.{Window, window_insert_count}
use Rattle.qpack_spec.specs.WrittenLaws.{IsByteField, IsByteLine}
use Rattle.qpack_safety.specs.AbstractSession.{AbstractBlock, required_count, AbstractSession, abstract_start}
use Rattle.qpack_safety.specs.Refines.{Agrees}
use Rattle.qpack_safety.specs.TwoEnds.{EndStep, Encode, EncodeAlone, after_end_steps}

-- the fields of the section that a step writes on a stream, if it does
abbrev pub handed_by : ℕ → EndStep → List (List FieldLine)
handed_by s (Encode t fields choices) = if nat_eq t s then fields ∷ [] else []
handed_by s (EncodeAlone t fields) = if nat_eq t s then fields ∷ [] else []
handed_by s e = []

-- the fields of the sections that were written on a stream, in order
abbrev pub handed_on : ℕ → List EndStep → List (List FieldLine)
handed_on s [] = []
handed_on s (e ∷ es) = handed_by s e ++ handed_on s es

-- a block of these fields: it is to mean them, a marked one has a literal (section 7.1.3), and it spells bytes if they
-- are bytes
pub record IsBlockOf (fields : List FieldLine) (b : AbstractBlock) : Type 0 where
  pub fields_are : b.fields ≡ fields_of_lines fields
  pub literals : AreLiteralsWhereMarked fields b.block.lines
  pub bytes : AllByRecursion IsByteField (fields_of_lines fields) → AllByRecursion IsByteLine b.block.lines

-- each block of each stream is of the fields that were passed to it, in order
abbrev pub BlocksAreOfWhatWasHanded : Type 0
BlocksAreOfWhatWasHanded =
    (capacity maximum limit : ℕ) → capacity ≤ maximum → (steps : List EndStep) (s : ℕ)
    → (let w = after_end_steps steps (abstract_start capacity maximum limit) in
    Agrees IsBlockOf (handed_on s steps) (stream_at w.streams s).blocks)

-- the bytes of a block of these fields, whichever strings are coded
abbrev pub section_of : Coding → List FieldLine → AbstractBlock → List ℕ
section_of coding fields b = coded_marked_block coding fields b.block

-- a strict decoder reads its bytes to exactly its fields with their marks, once the insertions are received that it
-- requires; until then they are blocked, and it returns how many are required (section 2.2.1)
pub record IsReadStrictly (coding : Coding) (w : Window) (size : ℕ) (fields : List FieldLine) (b : AbstractBlock) : Type 0 where
  pub blocked : window_insert_count w < required_count b
      → strict_reading w size (section_of coding fields b) ≡ Blocked (required_count b)
  pub read : required_count b ≤ window_insert_count w
      → strict_reading w size (section_of coding fields b) ≡ Read fields (required_count b)

-- a section is over the limit of the decoder: it is longer than any within the limit, or the sizes of its fields pass it
abbrev pub IsOverLimit : StrictReading → Type 0
IsOverLimit (Refused TooLong) = Unit {0}
IsOverLimit (Refused (InLine number offset (TooLarge sum))) = Unit {0}
IsOverLimit read = ⊥

-- the next section of a stream that isn't cancelled, and the fields that were passed to it
pub record IsNext (steps : List EndStep) (w : AbstractSession) (s : ℕ) (fields : List FieldLine) (b : AbstractBlock) :
    Type 0 where
  pub live : (stream_at w.streams s).cancelled ≡ false
  pub block : oldest_undecoded (stream_at w.streams s) ≡ Some b
  pub handed : slice_get (handed_on s steps) (stream_at w.streams s).decoded ≡ Some fields

-- so is the next section of each stream at every moment, if its fields are bytes, fewer than 2^63 are written of it,
-- and its fields are within the limit of the decoder
abbrev pub SectionsAreReadStrictly : Type 0
SectionsAreReadStrictly =
    (coding : Coding) (capacity maximum limit size : ℕ) → capacity ≤ maximum
    → (steps : List EndStep) (s : ℕ) (fields : List FieldLine) (b : AbstractBlock)
    → (let w = after_end_steps steps (abstract_start capacity maximum limit) in
    IsNext steps w s fields b → AllByRecursion IsByteField (fields_of_lines fields)
    → length (section_of coding fields b) < 2 ^ 63 → total_size (fields_of_lines fields) ≤ size
    → IsReadStrictly coding w.decoder size fields b)
