-- How the encoder writes a field section: which line represents each field, and what is inserted (RFC 9204, section
-- 2.1).
use Rattle.std.specs.Prelude.{ℕ, ◌+◌, ◌-◌, if◌then◌else◌, ◌&&◌, nat_le, List, [], ◌∷◌, ◌++◌, length, drop, Option, None}
use Rattle.std.specs.Prelude.{Some}
use Rattle.qpack_spec.specs.Field.{Field, has_name, is_field}
use Rattle.qpack_spec.specs.StaticTable.{static_index, static_name_index}
use Rattle.qpack_spec.specs.Instruction.{EncoderInstruction, InsertStaticName, InsertDynamicName, InsertLiteralName}
use Rattle.qpack_spec.specs.Instruction.{Duplicate}
use Rattle.qpack_spec.specs.Line.{Line, IndexedStatic, IndexedDynamic, IndexedPostBase, NamedStatic, NamedDynamic}
use Rattle.qpack_spec.specs.Line.{NamedPostBase, Literal}
use Rattle.qpack_spec.specs.Prefix.{prefix_for}
use Rattle.qpack_spec.specs.Reading.{Block, greatest_of}
use Rattle.qpack_spec.specs.Window.{maximum_capacity}
use Rattle.qpack_spec.specs.Table.{Table, fields_in, insert_count, with_reference, eviction_count_for, has_room}
use Rattle.qpack_spec.specs.Table.{below_limit, may_reference}
use Rattle.qpack_spec.specs.Table.{sent_entry, with_entry, last_position, newest_index, without_references, commit}

-- a block in progress: the table, the lines and the instructions so far
pub record Draft : Type 0 where
  pub table : Table
  pub lines : List Line
  pub instructions : List EncoderInstruction

-- one line more
abbrev pub with_line : Draft → Line → Draft
with_line d l = record d { lines = d.lines ++ l ∷ [] }

-- one line more, which references an entry
abbrev pub with_referencing_line : Draft → ℕ → Line → Draft
with_referencing_line d a l = record d { table = with_reference d.table a; lines = d.lines ++ l ∷ [] }

-- the instruction of an insertion, by the entries that stay: by the newest one of the name, or by none
abbrev pub by_name : Field → ℕ → Option ℕ → EncoderInstruction
by_name f stay (Some i) = InsertDynamicName (stay - 1 - i) f.value
by_name f stay None = InsertLiteralName f.name f.value

-- by the least static field of the name, else by the newest entry of it
abbrev pub by_static_name : Field → List Field → Option ℕ → EncoderInstruction
by_static_name f stay (Some i) = InsertStaticName i f.value
by_static_name f stay None = by_name f (length stay) (last_position (has_name f.name) stay)

-- by the newest equal entry, else by its name
abbrev pub by_equal : Field → List Field → Option ℕ → EncoderInstruction
by_equal f stay (Some i) = Duplicate (length stay - 1 - i)
by_equal f stay None = by_static_name f stay (static_name_index f.name)

-- the instruction that inserts a field if these entries stay (section 4.3)
unfoldable pub instruction_for : Field → List Field → EncoderInstruction
instruction_for f stay = by_equal f stay (last_position (is_field f) stay)

-- the entries that stay when a field is inserted
abbrev pub entries_left : Table → Field → List Field
entries_left t f = drop (eviction_count_for t f) (fields_in t.live)

-- an insertion by an instruction, named by its post-base index
abbrev pub with_inserted : ℕ → Draft → Field → EncoderInstruction → Draft
with_inserted base d f i =
    record {
      table = with_reference (with_entry d.table (sent_entry f)) (insert_count d.table + 1);
      lines = d.lines ++ IndexedPostBase (insert_count d.table - base) ∷ [];
      instructions = d.instructions ++ i ∷ [];
    }

-- the same, by the entries that stay
abbrev pub with_new_entry : ℕ → Draft → Field → Draft
with_new_entry base d f = with_inserted base d f (instruction_for f (entries_left d.table f))

-- a literal with the name of an entry, which was live at the block's start or came after it
abbrev pub name_reference_line : ℕ → ℕ → Field → Line
name_reference_line base a f = if nat_le a base then NamedDynamic (base - a) f.value else NamedPostBase
    (a - base - 1) f.value

-- a literal, by the newest entry of the name if it may be referenced
abbrev pub literal_by_entry : ℕ → Draft → Field → Option ℕ → Draft
literal_by_entry base d f (Some a) =
    if may_reference d.table a then with_referencing_line d a (name_reference_line base a f) else with_line d
    (Literal f.name f.value)
literal_by_entry base d f None = with_line d (Literal f.name f.value)

-- a literal, by the least static field of the name
abbrev pub literal : ℕ → Draft → Field → Option ℕ → Draft
literal base d f (Some i) = with_line d (NamedStatic i f.value)
literal base d f None = literal_by_entry base d f (newest_index d.table (has_name f.name))

-- an insertion if one more block may be blocked and there is room, else a literal
abbrev pub insertion_or_literal : ℕ → Draft → Field → Draft
insertion_or_literal base d f =
    if below_limit d.table
    && has_room d.table f then with_new_entry base d f else literal base d f (static_name_index f.name)

-- the newest equal entry, if it was live at the block's start and may be referenced
abbrev pub by_entry : ℕ → Draft → Field → Option ℕ → Draft
by_entry base d f (Some a) =
    if nat_le a base && may_reference d.table a
    then with_referencing_line d a (IndexedDynamic (base - a))
    else insertion_or_literal base d f
by_entry base d f None = insertion_or_literal base d f

-- an equal static field
abbrev pub by_static : ℕ → Draft → Field → Option ℕ → Draft
by_static base d f (Some i) = with_line d (IndexedStatic i)
by_static base d f None = by_entry base d f (newest_index d.table (is_field f))

-- one field: the first of these cases that applies
unfoldable pub rule_field : ℕ → Draft → Field → Draft
rule_field base d f = by_static base d f (static_index f)

-- each field in turn
abbrev pub rule_fields : ℕ → Draft → List Field → Draft
rule_fields base d [] = d
rule_fields base d (f ∷ fs) = rule_fields base (rule_field base d f) fs

-- a block in progress as it begins
abbrev pub empty_draft : Table → Draft
empty_draft t = record { table = without_references t; lines = []; instructions = [] }

-- the block in progress after the fields; its base is the count of insertions at its start
unfoldable pub rule : Table → List Field → Draft
rule t fs = rule_fields (insert_count t) (empty_draft t) fs

-- the required insert count of a block (section 2.1.2): the greatest index that its lines reference
abbrev pub required_insert_count : Draft → ℕ
required_insert_count d = greatest_of d.table.referenced

-- the block that is written
abbrev pub block_of : Table → Draft → Block
block_of t d =
    record {
      prefix = prefix_for (maximum_capacity t.agreed_max t.capacity) (required_insert_count d)
          (insert_count t);
      lines = d.lines;
    }

-- the table after it
abbrev pub committed_table : Draft → ℕ → Table
committed_table d stream = commit d.table stream (required_insert_count d)
