-- What an encoder writes for fields, one by one (RFC 9204, section 2.1).
use Rattle.std.specs.Prelude.{◌≡◌, ℕ, ◌+◌, ◌*◌, ◌≤◌, ◌⊎◌, ⊤, List, [], ◌++◌, take, map, Option}
use Rattle.std.specs.Prelude.{Result, Ok, Err, vec_len, vec_capacity}
use Rattle.std.specs.declared.vec.Vec.{Vec}
use Rattle.std.specs.Borrow.{Bor}
use Rattle.std.specs.Iterator.{Drains}
use Rattle.qpack_spec.specs.Field.{Field, FieldLine, fields_of_lines, total_size}
use Rattle.qpack_spec.specs.Instruction.{InsertStaticName, InsertDynamicName, InsertLiteralName, Duplicate}
use Rattle.qpack_spec.specs.Instruction.{coded_encoder_instruction, coded_encoder_instructions, written_encoder_instructions}
use Rattle.qpack_spec.specs.Line.{coded_lines}
use Rattle.qpack_spec.specs.BlockReading.{written_block}
use Rattle.qpack_spec.specs.Table.{Table, without_references}
use Rattle.qpack_spec.specs.Rule.{Draft, rule, required_insert_count, block_of, committed_table}
use Rattle.qpack_spec.specs.Handle.{Insertion, Duplicated, InsertedWithStaticName, InsertedWithName, Inserted}
use Rattle.qpack_spec.specs.Handle.{NotInserted}
use Rattle.qpack_spec.specs.Marked.{marked_rule, coded_marked_lines, written_marked_block}
use Rattle.qpack_spec.specs.Text.{Coding}
use Rattle.qpack_base.specs.HeaderFields.{DrainsFields}
use Rattle.qpack_base.specs.declared.field.HeaderField.{HeaderField}

-- the iterator gives this many items and ends, and P holds of the list of the field lines borrowed from them
abbrev pub DrainsLinesOf : {S H : Type 0} → (H → FieldLine) → (S → Option H → S → Type 0) → S
    → (List FieldLine → Type 0) → Type 0
DrainsLinesOf {H = H} line steps it P = (items : List H) × Drains steps it items × P (map line items)

-- the written instruction of an insertion's result, if it has one
abbrev pub written_insertion : Coding → Field → Insertion → List ℕ
written_insertion coding f (Duplicated relative post_base absolute) = coded_encoder_instruction coding (Duplicate relative)
written_insertion coding f (InsertedWithStaticName post_base index absolute) =
    coded_encoder_instruction coding (InsertStaticName index f.value)
written_insertion coding f (InsertedWithName relative post_base absolute) =
    coded_encoder_instruction coding (InsertDynamicName relative f.value)
written_insertion coding f (Inserted post_base absolute) = coded_encoder_instruction coding (InsertLiteralName f.name f.value)
written_insertion coding f (NotInserted lookup) = []

-- both calls did what they were asked for, or neither
abbrev pub AreAlike : {E F : Type 0} → Result ⊤ E → Result ⊤ F → Type 0
AreAlike (Ok a) (Ok b) = Unit {0}
AreAlike (Ok a) (Err f) = ⊥
AreAlike (Err e) (Ok b) = ⊥
AreAlike (Err e) (Err f) = Unit {0}

-- ---- room for instructions

-- as much room as the instructions of some fields take at most: four bytes for each byte of the fields' sizes
abbrev pub instructions_room : List Field → ℕ
instructions_room fs = 4 * total_size fs

-- at most this many bytes were appended to a vector, and with free room for these the vector did not grow
pub record GrowsWithin {A : Type 0} (room : ℕ) (old new : Vec ℕ A) : Type 0 where
  pub longer : vec_len new ≤ vec_len old + room
  pub still : vec_len old + room ≤ vec_capacity old → vec_capacity new ≡ vec_capacity old
  pub capacity : vec_capacity old ≤ vec_capacity new

-- nothing was appended, and the vector was not grown; or that is so within the room of the field lines that the
-- iterator gives
abbrev pub GrowsForLinesOf : {S H A : Type 0} → (H → FieldLine) → (S → Option H → S → Type 0) → S → Vec ℕ A → Vec ℕ A
    → Type 0
GrowsForLinesOf line steps it old new =
    GrowsWithin 0 old new
    ⊎ DrainsLinesOf line steps it (λ ls. GrowsWithin (instructions_room (fields_of_lines ls)) old new)

-- how far the vector grows for an iterator of references to fields
abbrev pub GrowsForFields : {S A : Type 0} → (S → Option (Bor HeaderField) → S → Type 0) → S → Vec ℕ A → Vec ℕ A
    → Type 0
GrowsForFields steps it old new =
    GrowsWithin 0 old new ⊎ DrainsFields steps it (λ fs. GrowsWithin (instructions_room fs) old new)

-- ---- one field

-- a block in progress at a table, of which nothing is written yet
abbrev pub draft_at : Table → Draft
draft_at t = record { table = t; lines = []; instructions = [] }

-- the table is the draft's, and exactly its lines and instructions were written
pub record Adds (coding : Coding) (d : Draft) (new : Table) (lines_old lines_new written_old written_new : List ℕ) : Type 0 where
  pub table : new ≡ d.table
  pub lines : lines_new ≡ lines_old ++ coded_lines coding d.lines
  pub written : written_new ≡ written_old ++ coded_encoder_instructions coding d.instructions

-- memory was refused: except for references, the table is unchanged, and no instruction was written; or the table is
-- the draft's, and exactly its instructions were written
abbrev pub StopsAdding : Coding → Draft → Table → Table → List ℕ → List ℕ → Type 0
StopsAdding coding d old new written_old written_new =
    ((without_references new ≡ without_references old) × (written_new ≡ written_old))
    ⊎ ((new ≡ d.table) × (written_new ≡ written_old ++ coded_encoder_instructions coding d.instructions))

-- ---- field lines

-- the table is the draft's, and exactly the lines of these field lines and its instructions were written
pub record AddsLines (coding : Coding) (ls : List FieldLine) (d : Draft) (new : Table) (lines_old lines_new written_old written_new :
    List ℕ) : Type 0 where
  pub table : new ≡ d.table
  pub lines : lines_new ≡ lines_old ++ coded_marked_lines coding ls d.lines
  pub written : written_new ≡ written_old ++ coded_encoder_instructions coding d.instructions

-- ---- a block

-- the block of the field lines was written: its bytes and its instructions are the rule's, the table is the rule's
-- after the block, and its required insert count is returned
pub record EncodesLines (stream : ℕ) (fields : List FieldLine) (old new : Table) (block_old block_new written_old
    written_new : List ℕ) (required : ℕ) : Type 0 where
  pub required_is : required ≡ required_insert_count (marked_rule old fields)
  pub table : new ≡ committed_table (marked_rule old fields) stream
  pub block : block_new ≡ block_old ++ written_marked_block fields (block_of old (marked_rule old fields))
  pub written : written_new ≡ written_old ++ written_encoder_instructions (marked_rule old fields).instructions

-- the block was given up after some of the field lines: their insertions stay and were written, and nothing is
-- referenced
pub record GivesUpLines (fields : List FieldLine) (old new : Table) (written_old written_new : List ℕ) : Type 0 where
  pub many : ℕ
  pub table : new ≡ without_references (marked_rule old (take many fields)).table
  pub written : written_new
      ≡ written_old ++ written_encoder_instructions (marked_rule old (take many fields)).instructions

-- memory was refused: before the field lines were gathered, and then nothing was inserted; or after some of them
abbrev pub StopsEncodingLinesOf : {S H : Type 0} → (H → FieldLine) → (S → Option H → S → Type 0) → S → Table → Table
    → List ℕ → List ℕ → Type 0
StopsEncodingLinesOf line steps it old new written_old written_new =
    GivesUpLines [] old new written_old written_new
    ⊎ DrainsLinesOf line steps it (λ ls. GivesUpLines ls old new written_old written_new)

-- ---- a block of fields none of which is marked

-- the block of the fields was written: its bytes and its instructions are the rule's, the table is the rule's after the
-- block, and its required insert count is returned
pub record EncodesBlock (stream : ℕ) (fields : List Field) (old new : Table) (block_old block_new written_old
    written_new : List ℕ) (required : ℕ) : Type 0 where
  pub required_is : required ≡ required_insert_count (rule old fields)
  pub table : new ≡ committed_table (rule old fields) stream
  pub block : block_new ≡ block_old ++ written_block (block_of old (rule old fields))
  pub written : written_new ≡ written_old ++ written_encoder_instructions (rule old fields).instructions

-- the block was given up after some of the fields: their insertions stay and were written, and nothing is referenced
pub record GivesUpBlock (fields : List Field) (old new : Table) (written_old written_new : List ℕ) : Type 0 where
  pub many : ℕ
  pub table : new ≡ without_references (rule old (take many fields)).table
  pub written : written_new ≡ written_old ++ written_encoder_instructions (rule old (take many fields)).instructions

-- memory was refused: before the fields were gathered, and then nothing was inserted; or after some of the fields
abbrev pub StopsEncoding : {S : Type 0} → (S → Option (Bor HeaderField) → S → Type 0) → S → Table → Table → List ℕ
    → List ℕ → Type 0
StopsEncoding steps it old new written_old written_new =
    GivesUpBlock [] old new written_old written_new
    ⊎ DrainsFields steps it (λ fs. GivesUpBlock fs old new written_old written_new)
