-- What an encoder asks of its table, field by field: to find an entry, or to insert one. Together they are the rule.
use Rattle.std.specs.Prelude.{◌≡◌, ℕ, ◌+◌, ◌-◌, if◌then◌else◌, ◌&&◌, nat_le, List, [], ◌∷◌, ◌++◌, Option, None, Some}
use Rattle.qpack_spec.specs.Field.{Field, has_name, is_field}
use Rattle.qpack_spec.specs.StaticTable.{static_index, static_name_index}
use Rattle.qpack_spec.specs.Instruction.{EncoderInstruction, InsertStaticName, InsertDynamicName, InsertLiteralName}
use Rattle.qpack_spec.specs.Instruction.{Duplicate}
use Rattle.qpack_spec.specs.Instruction.{SetCapacity}
use Rattle.qpack_spec.specs.Line.{Line, IndexedStatic, IndexedDynamic, IndexedPostBase, NamedStatic, NamedDynamic}
use Rattle.qpack_spec.specs.Line.{NamedPostBase, Literal}
use Rattle.qpack_spec.specs.Table.{Table, insert_count, with_reference, has_room, below_limit, may_reference}
use Rattle.qpack_spec.specs.Table.{sent_entry, with_entry}
use Rattle.qpack_spec.specs.Table.{newest_index}
use Rattle.qpack_spec.specs.Rule.{Draft, instruction_for, entries_left, with_line, empty_draft, rule}

-- where a field or its name was found: in the static table, at an entry up to the base, at one above it, or nowhere
pub data Lookup : Type 0 where
  AtStatic : (index : ℕ) → Lookup
  AtRelative : (index absolute : ℕ) → Lookup
  AtPostBase : (index absolute : ℕ) → Lookup
  NotFound : Lookup

-- an entry by its position before or after the base
abbrev pub lookup_of : ℕ → ℕ → Lookup
lookup_of base a = if nat_le a base then AtRelative (base - a) a else AtPostBase (a - base - 1) a

-- the table with what was found referenced
pub record Found : Type 0 where
  pub lookup : Lookup
  pub table : Table

-- an entry, if there is one and it may be referenced: then it is referenced
abbrev pub found_entry : Table → ℕ → Option ℕ → Found
found_entry t base None = record { lookup = NotFound; table = t }
found_entry t base (Some a) =
    if may_reference t a then record { lookup = lookup_of base a; table = with_reference t a } else record {
      lookup = NotFound;
      table = t;
    }

-- to find a field: the newest equal entry alone is looked at
unfoldable pub find_field : Table → ℕ → Field → Found
find_field t base f = found_entry t base (newest_index t (is_field f))

-- to find a name: the least static field of it, else the newest entry of it
abbrev pub found_name : Table → ℕ → Field → Option ℕ → Found
found_name t base f (Some i) = record { lookup = AtStatic i; table = t }
found_name t base f None = found_entry t base (newest_index t (has_name f.name))

-- the result of an insertion: its instruction's reference, with the post-base index and the absolute one of the new
-- entry; or where the name was found instead
pub data Insertion : Type 0 where
  Duplicated : (relative post_base absolute : ℕ) → Insertion
  InsertedWithStaticName : (post_base index absolute : ℕ) → Insertion
  InsertedWithName : (relative post_base absolute : ℕ) → Insertion
  Inserted : (post_base absolute : ℕ) → Insertion
  NotInserted : (lookup : Lookup) → Insertion

-- the result of an insertion whose instruction is this one
abbrev pub answer_of : EncoderInstruction → ℕ → ℕ → Insertion
answer_of (InsertStaticName index value) post_base absolute = InsertedWithStaticName post_base index absolute
answer_of (InsertDynamicName relative value) post_base absolute = InsertedWithName relative post_base absolute
answer_of (InsertLiteralName name value) post_base absolute = Inserted post_base absolute
answer_of (Duplicate relative) post_base absolute = Duplicated relative post_base absolute
answer_of (SetCapacity n) post_base absolute = Inserted post_base absolute

-- the result of an insertion, and the table after it
pub record Insertable : Type 0 where
  pub insertion : Insertion
  pub table : Table

-- where a name was found in place of an insertion
abbrev pub found_instead : Found → Insertable
found_instead found = record { insertion = NotInserted found.lookup; table = found.table }

-- to insert a field: done if one more block may be blocked and there is room
unfoldable pub insert_field : Table → ℕ → Field → Insertable
insert_field t base f =
    if below_limit t && has_room t f
    then record {
      insertion = answer_of (instruction_for f (entries_left t f)) (insert_count t - base) (insert_count t + 1);
      table = with_reference (with_entry t (sent_entry f)) (insert_count t + 1);
    }
    else found_instead (found_name t base f (static_name_index f.name))

-- ---- the encoder's steps

-- the literal of a field, by where its name was found
abbrev pub literal_at : Field → Lookup → Line
literal_at f (AtStatic index) = NamedStatic index f.value
literal_at f (AtRelative index absolute) = NamedDynamic index f.value
literal_at f (AtPostBase index absolute) = NamedPostBase index f.value
literal_at f NotFound = Literal f.name f.value

-- the line of an insertion's result
abbrev pub line_of : Field → Insertion → Line
line_of f (Duplicated relative post_base absolute) = IndexedPostBase post_base
line_of f (InsertedWithStaticName post_base index absolute) = IndexedPostBase post_base
line_of f (InsertedWithName relative post_base absolute) = IndexedPostBase post_base
line_of f (Inserted post_base absolute) = IndexedPostBase post_base
line_of f (NotInserted lookup) = literal_at f lookup

-- the instruction of an insertion's result, if it has one
abbrev pub instructions_of : Field → Insertion → List EncoderInstruction
instructions_of f (Duplicated relative post_base absolute) = Duplicate relative ∷ []
instructions_of f (InsertedWithStaticName post_base index absolute) = InsertStaticName index f.value ∷ []
instructions_of f (InsertedWithName relative post_base absolute) = InsertDynamicName relative f.value ∷ []
instructions_of f (Inserted post_base absolute) = InsertLiteralName f.name f.value ∷ []
instructions_of f (NotInserted lookup) = []

-- the block in progress after an insertion, or what was found in its place
abbrev pub with_insertion : Draft → Field → Insertable → Draft
with_insertion d f i =
    record {
      table = i.table;
      lines = d.lines ++ line_of f i.insertion ∷ [];
      instructions = d.instructions ++ instructions_of f i.insertion;
    }

-- an entry up to the base is a line by itself; anything else is left to an insertion
abbrev pub with_found : ℕ → Draft → Field → Lookup → Table → Draft
with_found base d f (AtRelative index absolute) t = record d { table = t; lines = d.lines ++ IndexedDynamic index ∷ [] }
with_found base d f found t = with_insertion d f (insert_field t base f)

-- an equal static field, else what the handle returns
abbrev pub by_handle : ℕ → Draft → Field → Option ℕ → Draft
by_handle base d f (Some i) = with_line d (IndexedStatic i)
by_handle base d f None = with_found base d f (find_field d.table base f).lookup (find_field d.table base f).table

-- one field
unfoldable pub handle_field : ℕ → Draft → Field → Draft
handle_field base d f = by_handle base d f (static_index f)

-- each field in turn
abbrev pub handle_fields : ℕ → Draft → List Field → Draft
handle_fields base d [] = d
handle_fields base d (f ∷ fs) = handle_fields base (handle_field base d f) fs

-- asking the handle field by field is the rule
abbrev pub HandleIsTheRule : Type 0
HandleIsTheRule = (t : Table) (fs : List Field) → handle_fields (insert_count t) (empty_draft t) fs ≡ rule t fs
