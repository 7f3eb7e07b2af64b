-- A section whose fields are written under some choices (RFC 9204, section 2.1).
use Rattle.std.specs.Prelude.{◌≡◌, ℕ, List, ◌∷◌, [], ◌++◌, length, take}
use Rattle.qpack_spec.specs.Chosen.{Chosen, chosen_field, chosen_fields, chosen_rule}
use Rattle.qpack_spec.specs.Field.{FieldLine}
use Rattle.qpack_spec.specs.Instruction.{coded_encoder_instructions}
use Rattle.qpack_spec.specs.Marked.{coded_marked_block, coded_marked_lines}
use Rattle.qpack_spec.specs.Rule.{Draft, empty_draft, required_insert_count, block_of, committed_table}
use Rattle.qpack_spec.specs.Table.{Table, insert_count, without_references}
use Rattle.qpack_spec.specs.Text.{Coding}
use Rattle.qpack_codec.specs.ChoosesAlong.{Chooses, ChoosesField, ChoosesAlong}
use Rattle.qpack_codec.specs.Encoding.{draft_at, AddsLines, StopsAdding}

-- ---- one field

-- the table is the draft's, and exactly its lines were written, as those of a field line; nothing is inserted
pub record AddsLine (coding : Coding) (l : FieldLine) (d : Draft) (new : Table) (lines_old lines_new : List ℕ) : Type 0 where
  pub table : new ≡ d.table
  pub none : d.instructions ≡ []
  pub lines : lines_new ≡ lines_old ++ coded_marked_lines coding (l ∷ []) d.lines

-- ---- fields, one after the other

-- the table and what was written are those of some choices, one for each field line
pub record AddsChosen (coding : Coding) (fields : List FieldLine) (old : Table) (base : ℕ) (new : Table) (lines_old lines_new written_old
    written_new : List ℕ) : Type 0 where
  pub choices : List Chosen
  pub each : length choices ≡ length fields
  pub adds : AddsLines coding fields (chosen_fields base (draft_at old) fields choices) new lines_old lines_new written_old
      written_new

-- memory was refused after some of the field lines: except for references, the table is the one after them under some
-- choices, and exactly their instructions were written
pub record StopsAmongChosen (coding : Coding) (fields : List FieldLine) (old : Table) (base : ℕ) (new : Table) (written_old written_new :
    List ℕ) : Type 0 where
  pub many : ℕ
  pub choices : List Chosen
  pub table : without_references new
      ≡ without_references (chosen_fields base (draft_at old) (take many fields) choices).table
  pub written : written_new
      ≡ written_old
      ++ coded_encoder_instructions coding (chosen_fields base (draft_at old) (take many fields) choices).instructions

-- ---- a block

-- the block of the field lines was written under some choices, and is not ended: its bytes, its instructions and the
-- table after its lines are those of the choices, and its required insert count is returned
pub record DraftsChosen (coding : Coding) (fields : List FieldLine) (old new : Table) (block_old block_new written_old written_new :
    List ℕ) (required : ℕ) : Type 0 where
  pub choices : List Chosen
  pub required_is : required ≡ required_insert_count (chosen_rule old fields choices)
  pub table : new ≡ (chosen_rule old fields choices).table
  pub block : block_new ≡ block_old ++ coded_marked_block coding fields (block_of old (chosen_rule old fields choices))
  pub written : written_new ≡ written_old ++ coded_encoder_instructions coding (chosen_rule old fields choices).instructions

-- the block of the field lines was written under some choices: its bytes, its instructions and the table after it are
-- those of the choices, and its required insert count is returned (section 2.1.2)
pub record EncodesChosen (coding : Coding) (stream : ℕ) (fields : List FieldLine) (old new : Table) (block_old block_new written_old
    written_new : List ℕ) (required : ℕ) : Type 0 where
  pub choices : List Chosen
  pub required_is : required ≡ required_insert_count (chosen_rule old fields choices)
  pub table : new ≡ committed_table (chosen_rule old fields choices) stream
  pub block : block_new ≡ block_old ++ coded_marked_block coding fields (block_of old (chosen_rule old fields choices))
  pub written : written_new ≡ written_old ++ coded_encoder_instructions coding (chosen_rule old fields choices).instructions

-- the block was given up after some of the field lines: their insertions stay and were written, and nothing is
-- referenced (section 2.1.1)
pub record GivesUpChosen (coding : Coding) (fields : List FieldLine) (old new : Table) (written_old written_new : List ℕ) : Type 0 where
  pub many : ℕ
  pub choices : List Chosen
  pub table : new ≡ without_references (chosen_rule old (take many fields) choices).table
  pub written : written_new
      ≡ written_old ++ coded_encoder_instructions coding (chosen_rule old (take many fields) choices).instructions

-- ---- by a chooser

-- what one field line adds, by what a chooser chose
pub record AddsByChooser {K W : Type 0} (coding : Coding) (chooses : Chooses K W) (l : FieldLine) (wish : W) (base : ℕ) (old new : Table)
    (before after : K) (lines_old lines_new written_old written_new : List ℕ) : Type 0 where
  pub choice : Chosen
  pub chose : ChoosesField chooses before base old l wish choice after
  pub adds : AddsLines coding (l ∷ []) (chosen_field base (draft_at old) l choice) new lines_old lines_new written_old
      written_new

-- memory was refused for what a chooser chose for one field line: nothing was added, or the field was inserted
pub record StopsByChooser {K W : Type 0} (coding : Coding) (chooses : Chooses K W) (l : FieldLine) (wish : W) (base : ℕ)
    (old new : Table) (before : K) (written_old written_new : List ℕ) : Type 0 where
  pub choice : Chosen
  pub after : K
  pub chose : ChoosesField chooses before base old l wish choice after
  pub stops : StopsAdding coding (chosen_field base (draft_at old) l choice) old new written_old written_new

-- field lines were added under a chooser's choices, one after the other
pub record AddsAlong {K W : Type 0} (coding : Coding) (chooses : Chooses K W) (fields : List FieldLine) (wishes : List W) (old : Table)
    (base : ℕ) (new : Table) (before after : K) (lines_old lines_new written_old written_new : List ℕ) : Type 0 where
  pub adds : AddsChosen coding fields old base new lines_old lines_new written_old written_new
  pub along : ChoosesAlong chooses base (draft_at old) before fields wishes adds.choices after

-- memory was refused after some of the field lines, which were added under a chooser's choices
pub record StopsAlong {K W : Type 0} (coding : Coding) (chooses : Chooses K W) (fields : List FieldLine) (wishes : List W) (old : Table)
    (base : ℕ) (new : Table) (before : K) (written_old written_new : List ℕ) : Type 0 where
  pub stops : StopsAmongChosen coding fields old base new written_old written_new
  pub after : K
  pub along : ChoosesAlong chooses base (draft_at old) before (take stops.many fields) (take stops.many wishes)
      stops.choices after

-- the choices of a section are those of a chooser, from its start to its end
pub record ChoosesSection {K W : Type 0} (chooses : Chooses K W) (fields : List FieldLine) (wishes : List W)
    (old : Table) (choices : List Chosen) : Type 0 where
  pub begun : K
  pub after : K
  pub along : ChoosesAlong chooses (insert_count old) (empty_draft old) begun fields wishes choices after

-- the block of the field lines was written by what a chooser chose, and is not ended
pub record DraftsAlong {K W : Type 0} (coding : Coding) (chooses : Chooses K W) (fields : List FieldLine) (wishes : List W)
    (old new : Table) (block_old block_new written_old written_new : List ℕ) (required : ℕ) : Type 0 where
  pub drafts : DraftsChosen coding fields old new block_old block_new written_old written_new required
  pub along : ChoosesSection chooses fields wishes old drafts.choices

-- the block of the field lines was written by what a chooser chose
pub record WritesAlong {K W : Type 0} (coding : Coding) (chooses : Chooses K W) (stream : ℕ) (fields : List FieldLine) (wishes : List W)
    (old new : Table) (block_old block_new written_old written_new : List ℕ) (required : ℕ) : Type 0 where
  pub section : EncodesChosen coding stream fields old new block_old block_new written_old written_new required
  pub along : ChoosesSection chooses fields wishes old section.choices

-- the block was given up after some of the field lines, which a chooser chose for
pub record GivesUpAlong {K W : Type 0} (coding : Coding) (chooses : Chooses K W) (fields : List FieldLine) (wishes : List W)
    (old new : Table) (written_old written_new : List ℕ) : Type 0 where
  pub given_up : GivesUpChosen coding fields old new written_old written_new
  pub along : ChoosesSection chooses (take given_up.many fields) (take given_up.many wishes) old given_up.choices

-- the block of the field lines was written by what a chooser chose; at capacity 0 the chooser is not called
pub record EncodesAlong {K W : Type 0} (coding : Coding) (chooses : Chooses K W) (stream : ℕ) (fields : List FieldLine) (wishes : List W)
    (old new : Table) (block_old block_new written_old written_new : List ℕ) (required : ℕ) : Type 0 where
  pub section : EncodesChosen coding stream fields old new block_old block_new written_old written_new required
  pub along : (old.capacity ≡ 0 → ⊥) → ChoosesSection chooses fields wishes old section.choices
