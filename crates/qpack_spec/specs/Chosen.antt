-- What an encoder writes of each field of a section when its choices are data (RFC 9204, section 2.1). A choice that is
-- not safe for the table it meets is replaced by a line without the dynamic table.
use Rattle.std.specs.Prelude.{◌≡◌, ℕ, ◌-◌, Bool, false, if◌then◌else◌, ◌&&◌, nat_le, nat_lt, List, [], ◌∷◌, ◌++◌}
use Rattle.std.specs.Prelude.{length, drop, Option, None, Some, slice_get}
use Rattle.qpack_spec.specs.Field.{Field, FieldLine, has_name, is_field}
use Rattle.qpack_spec.specs.Instruction.{EncoderInstruction}
use Rattle.qpack_spec.specs.Line.{Line, IndexedStatic, IndexedDynamic, IndexedPostBase, NamedStatic, Literal}
use Rattle.qpack_spec.specs.Marked.{marked_rule}
use Rattle.qpack_spec.specs.MarkedLaws.{AreLiteralsWhereMarked}
use Rattle.qpack_spec.specs.Rule.{Draft, with_line, with_referencing_line, with_inserted, name_reference_line}
use Rattle.qpack_spec.specs.Rule.{instruction_for, empty_draft}
use Rattle.qpack_spec.specs.StaticTable.{static_index, static_name_index}
use Rattle.qpack_spec.specs.Table.{Table, fields_in, insert_count, has_room, below_limit, may_reference, sent_entry}
use Rattle.qpack_spec.specs.Table.{with_entry, eviction_count_for}

-- the line of a field (section 4.5): without the dynamic table, by an equal entry, by the name of an entry, or by an
-- insertion that the line references
pub data Choice : Type 0 where
  Alone : Choice
  References : (absolute : ℕ) → Choice
  Names : (absolute : ℕ) → Choice
  Inserts : Choice

-- the entries that the instruction of an insertion may name: those that stay, or every live one, so also one that the
-- insertion evicts (section 3.2.2)
pub data Naming : Type 0 where
  Staying : Naming
  Live : Naming

-- what is done for a field: its line, whether the field is inserted after the line without a reference (section 2.1.2),
-- and what its insertion may name
pub record Chosen : Type 0 where
  pub line : Choice
  pub unreferenced : Bool
  pub names : Naming

-- a line without the dynamic table, and no insertion (section 2.1)
abbrev pub alone_chosen : Chosen
alone_chosen = record { line = Alone; unreferenced = false; names = Staying }

-- how many of the oldest entries an instruction passes over, of those that are evicted
abbrev pub passed_over : Naming → ℕ → ℕ
passed_over Staying evicted = evicted
passed_over Live evicted = 0

-- the instruction that inserts a field (section 4.3)
abbrev pub instruction_naming : Naming → Table → Field → EncoderInstruction
instruction_naming names t f = instruction_for f (drop (passed_over names (eviction_count_for t f)) (fields_in t.live))

-- whether there is a field and it passes
abbrev pub some_passes : (Field → Bool) → Option Field → Bool
some_passes p (Some f) = p f
some_passes p None = false

-- whether the entry of an absolute index is live and passes (section 3.2.4)
abbrev pub passes_at : Table → (Field → Bool) → ℕ → Bool
passes_at t p a = nat_lt t.dropped a && some_passes p (slice_get (fields_in t.live) (a - t.dropped - 1))

-- a literal without the dynamic table, by the least static field of the name (sections 4.5.4 and 4.5.6)
abbrev pub literal_alone : Draft → Field → Option ℕ → Draft
literal_alone d f (Some i) = with_line d (NamedStatic i f.value)
literal_alone d f None = with_line d (Literal f.name f.value)

-- a line without the dynamic table, by an equal static field (section 4.5.2)
abbrev pub line_alone : Draft → Field → Option ℕ → Draft
line_alone d f (Some i) = with_line d (IndexedStatic i)
line_alone d f None = literal_alone d f (static_name_index f.name)

-- the line of an entry, inserted before the block began or since (sections 4.5.2 and 4.5.3)
abbrev pub entry_reference_line : ℕ → ℕ → Line
entry_reference_line base a = if nat_le a base then IndexedDynamic (base - a) else IndexedPostBase (a - base - 1)

-- a literal by a live entry of the name that may be referenced, else another draft (sections 4.5.4 and 4.5.5)
abbrev pub named_or : ℕ → Draft → Field → ℕ → Draft → Draft
named_or base d f a other =
    if passes_at d.table (has_name f.name) a && may_reference d.table a
    then with_referencing_line d a (name_reference_line base a f) else other

-- a literal, as a marked field is written (section 7.1.3)
abbrev pub literal_chosen : ℕ → Draft → Field → Choice → Draft
literal_chosen base d f (Names a) = named_or base d f a (literal_alone d f (static_name_index f.name))
literal_chosen base d f c = literal_alone d f (static_name_index f.name)

-- a line that inserts nothing: an entry must be live, pass and be one that may be referenced (section 2.1.2)
abbrev pub line_uninserted : ℕ → Draft → Field → Choice → Draft
line_uninserted base d f (References a) =
    if passes_at d.table (is_field f) a && may_reference d.table a
    then with_referencing_line d a (entry_reference_line base a) else line_alone d f (static_index f)
line_uninserted base d f (Names a) = named_or base d f a (line_alone d f (static_index f))
line_uninserted base d f c = line_alone d f (static_index f)

-- a line: an insertion needs room, and that one more block may be blocked (section 2.1.1)
abbrev pub line_chosen : Naming → ℕ → Draft → Field → Choice → Draft
line_chosen names base d f Inserts =
    if below_limit d.table && has_room d.table f
    then with_inserted base d f (instruction_naming names d.table f) else line_alone d f (static_index f)
line_chosen names base d f c = line_uninserted base d f c

-- an insertion that no line references (section 2.1.2)
abbrev pub with_unreferenced_entry : Naming → Draft → Field → Draft
with_unreferenced_entry names d f =
    record d {
      table = with_entry d.table (sent_entry f);
      instructions = d.instructions ++ instruction_naming names d.table f ∷ [];
    }

-- such an insertion, if it is chosen and there is room (section 2.1.1)
abbrev pub unreferenced_chosen : Naming → Bool → Draft → Field → Draft
unreferenced_chosen names unreferenced d f =
    if unreferenced && has_room d.table f then with_unreferenced_entry names d f else d

-- one field: a marked one is a literal and is never inserted (section 7.1.3)
abbrev pub chosen_field : ℕ → Draft → FieldLine → Chosen → Draft
chosen_field base d l c =
    if l.never_indexed then literal_chosen base d l.field c.line
    else unreferenced_chosen c.names c.unreferenced (line_chosen c.names base d l.field c.line) l.field

-- each field in turn; a field without a choice is written without the dynamic table (section 2.1)
abbrev pub chosen_fields : ℕ → Draft → List FieldLine → List Chosen → Draft
chosen_fields base d [] cs = d
chosen_fields base d (l ∷ ls) [] = chosen_fields base (chosen_field base d l alone_chosen) ls []
chosen_fields base d (l ∷ ls) (c ∷ cs) = chosen_fields base (chosen_field base d l c) ls cs

-- the block in progress after the fields, under these choices; its base is the count of insertions at its start
-- (section 4.5.1.2)
unfoldable pub chosen_rule : Table → List FieldLine → List Chosen → Draft
chosen_rule t ls cs = chosen_fields (insert_count t) (empty_draft t) ls cs

-- ---- what is promised

-- under any choices each field has a line, a marked one a literal (section 7.1.3)
abbrev pub ChosenFieldsHaveLines : Type 0
ChosenFieldsHaveLines =
    (t : Table) (ls : List FieldLine) (cs : List Chosen)
    → AreLiteralsWhereMarked ls (chosen_rule t ls cs).lines × (length (chosen_rule t ls cs).lines ≡ length ls)

-- under any choices nothing is inserted at capacity 0 (section 3.2.2)
abbrev pub NothingIsChosenAtZero : Type 0
NothingIsChosenAtZero =
    (t : Table) (ls : List FieldLine) (cs : List Chosen) → t.capacity ≡ 0 → (chosen_rule t ls cs).instructions ≡ []

-- the rule for marked fields is one list of choices (section 2.1)
abbrev pub MarkedRuleIsChosen : Type 0
MarkedRuleIsChosen = (t : Table) (ls : List FieldLine) → (cs : List Chosen) × (marked_rule t ls ≡ chosen_rule t ls cs)
