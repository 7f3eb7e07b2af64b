-- How the encoder writes a field section some of whose fields are marked as never to be indexed (RFC 9204, section
-- 7.1.3): a marked field is a literal that asks to stay one, and any other field is as the rule has it.
use Rattle.std.specs.Prelude.{◌≡◌, ℕ, false, if◌then◌else◌, List, [], ◌∷◌, ◌++◌, length, map}
use Rattle.qpack_spec.specs.Field.{Field, FieldLine, unmarked}
use Rattle.qpack_spec.specs.Handle.{found_name, found_instead, with_insertion, handle_field}
use Rattle.qpack_spec.specs.Line.{Line, coded_lines, coded_marked_line}
use Rattle.qpack_spec.specs.Prefix.{written_prefix}
use Rattle.qpack_spec.specs.Reading.{Block}
use Rattle.qpack_spec.specs.Rule.{Draft, literal, rule_field, empty_draft, rule}
use Rattle.qpack_spec.specs.Stateless.{stateless_literal, stateless_line, stateless_block}
use Rattle.qpack_spec.specs.StaticTable.{static_name_index}
use Rattle.qpack_spec.specs.Table.{Table, insert_count}
use Rattle.qpack_spec.specs.Text.{Coding, Always}

-- one field: a marked one is a literal, by the name of a static field or of an entry if the rule has one, and it is
-- neither inserted nor looked up
abbrev pub marked_field : ℕ → Draft → FieldLine → Draft
marked_field base d l =
    if l.never_indexed then literal base d l.field (static_name_index l.field.name) else rule_field base d l.field

-- each field in turn
abbrev pub marked_fields : ℕ → Draft → List FieldLine → Draft
marked_fields base d [] = d
marked_fields base d (l ∷ ls) = marked_fields base (marked_field base d l) ls

-- a block in progress after the fields; its base is the count of insertions at its start
unfoldable pub marked_rule : Table → List FieldLine → Draft
marked_rule t ls = marked_fields (insert_count t) (empty_draft t) ls

-- the written lines under a coding, one for each field, with N if it is marked
unfoldable pub coded_marked_lines : Coding → List FieldLine → List Line → List ℕ
coded_marked_lines coding (f ∷ fs) (l ∷ ls) =
    coded_marked_line coding f.never_indexed l ++ coded_marked_lines coding fs ls
coded_marked_lines coding fs ls = coded_lines coding ls

-- the bytes that are written of a block of these fields
unfoldable pub coded_marked_block : Coding → List FieldLine → Block → List ℕ
coded_marked_block coding fs b = written_prefix b.prefix ++ coded_marked_lines coding fs b.lines

-- the same where every string is coded
abbrev pub written_marked_lines : List FieldLine → List Line → List ℕ
written_marked_lines fs ls = coded_marked_lines Always fs ls

abbrev pub written_marked_block : List FieldLine → Block → List ℕ
written_marked_block fs b = coded_marked_block Always fs b

-- ---- without entries

-- the line of a field: a marked one is a literal, by the least static field of its name
abbrev pub stateless_line_marked : FieldLine → Line
stateless_line_marked l =
    if l.never_indexed then stateless_literal l.field (static_name_index l.field.name) else stateless_line l.field

-- the block of fields: nothing is required
abbrev pub stateless_block_marked : List FieldLine → Block
stateless_block_marked ls =
    record { prefix = record { count = 0; sign = false; delta = 0 }; lines = map (λ l. stateless_line_marked l) ls }

-- ---- the encoder's steps

-- one field: the name of a marked one is found, any other is handled
abbrev pub handle_line : ℕ → Draft → FieldLine → Draft
handle_line base d l =
    if l.never_indexed
    then with_insertion d l.field (found_instead
    (found_name d.table base l.field (static_name_index l.field.name)))
    else handle_field base d l.field

-- each field in turn
abbrev pub handle_lines : ℕ → Draft → List FieldLine → Draft
handle_lines base d [] = d
handle_lines base d (l ∷ ls) = handle_lines base (handle_line base d l) ls

-- ---- what is promised

-- asking the handle field by field is the rule for marked fields
abbrev pub HandleIsTheMarkedRule : Type 0
HandleIsTheMarkedRule =
    (t : Table) (ls : List FieldLine) → handle_lines (insert_count t) (empty_draft t) ls ≡ marked_rule t ls

-- if no field is marked it is the rule, its lines are written as lines without marks, and so is a block without entries
pub record IsTheRuleUnmarked (t : Table) (fs : List Field) : Type 0 where
  pub draft : marked_rule t (map unmarked fs) ≡ rule t fs
  pub lines : (coding : Coding) (ls : List Line)
      → coded_marked_lines coding (map unmarked fs) ls ≡ coded_lines coding ls
  pub stateless : stateless_block_marked (map unmarked fs) ≡ stateless_block fs

-- a block has a line for each of its fields
abbrev pub MarkedLinesAreOfFields : Type 0
MarkedLinesAreOfFields = (t : Table) (ls : List FieldLine) → length (marked_rule t ls).lines ≡ length ls
