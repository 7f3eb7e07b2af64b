-- Worked rows of choices, computed by the definitions: each kind of choice where its guards allow it, and where they do
-- not.
use Rattle.std.proofs.Common.{ℕ, ◌≡◌, true, false, [], ◌∷◌, Some, refl}
use Rattle.std.specs.Prelude.{codes}
use Rattle.qpack_spec.specs.Chosen.{Choice, Alone, References, Names, Inserts, Staying, Live, Chosen, chosen_rule}
use Rattle.qpack_spec.specs.Field.{FieldLine}
use Rattle.qpack_spec.specs.Instruction.{Duplicate, InsertDynamicName, InsertLiteralName}
use Rattle.qpack_spec.specs.Line.{IndexedStatic, IndexedDynamic, IndexedPostBase, NamedStatic, NamedDynamic}
use Rattle.qpack_spec.specs.Line.{NamedPostBase, Literal}
use Rattle.qpack_spec.specs.Rule.{required_insert_count}
use Rattle.qpack_spec.specs.StaticTable.{field}
use Rattle.qpack_spec.specs.Table.{Table, empty_table, sent_entry}
use Rattle.qpack_spec.proofs.Computing.{computed}

-- a table of two entries of 38 bytes each, both received; of its 128 bytes 52 are free
table : ℕ → Table
table limit =
    record (empty_table 128 (Some 128) limit) {
      live = sent_entry (field (codes "foo") (codes "bar")) ∷ sent_entry (field (codes "foo") (codes "baz")) ∷ [];
      known_received_count = 2;
    }

-- the same where no byte is free, the same with the first entry alone, and where no entry is received yet
full : ℕ → Table
full limit = record (table limit) { capacity = 76 }

single : ℕ → Table
single limit = record (table limit) { capacity = 38; live = sent_entry (field (codes "foo") (codes "bar")) ∷ [] }

unknown : ℕ → Table
unknown limit = record (table limit) { known_received_count = 0 }

-- the same where two entries were evicted before, and where one block may be blocked and is
later : Table
later = record (table 1) { dropped = 2; known_received_count = 4 }

at_limit : Table
at_limit = record (table 1) { known_received_count = 0; blocked = 2 ∷ [] }

bar : FieldLine
bar = record { field = field (codes "foo") (codes "bar"); never_indexed = false }

baz : FieldLine
baz = record { field = field (codes "foo") (codes "baz"); never_indexed = false }

qux : FieldLine
qux = record { field = field (codes "foo") (codes "qux"); never_indexed = false }

other : FieldLine
other = record { field = field (codes "oof") (codes "bar"); never_indexed = false }

get : FieldLine
get = record { field = field (codes ":method") (codes "GET"); never_indexed = false }

patch : FieldLine
patch = record { field = field (codes ":method") (codes "PATCH"); never_indexed = false }

marked : FieldLine
marked = record { field = field (codes "foo") (codes "bar"); never_indexed = true }

-- a line, and one after which the field is inserted without a reference
line : Choice → Chosen
line c = record { line = c; unreferenced = false; names = Staying }

twice : Choice → Chosen
twice c = record { line = c; unreferenced = true; names = Staying }

-- the same, where the insertion may name what it evicts
live : Chosen → Chosen
live c = record c { names = Live }

-- all that has to unfold
rows : ℕ
unfolding computed table full single unknown later at_limit bar baz qux other get patch marked line twice live chosen_rule
rows = 0

-- ---- without the dynamic table

-- an equal static field, a static field of the name, and a literal, though equal entries are there
alone : (chosen_rule (table 1) (get ∷ patch ∷ bar ∷ []) (line Alone ∷ line Alone ∷ line Alone ∷ [])).lines
    ≡ IndexedStatic 17 ∷ NamedStatic 15 (codes "PATCH") ∷ Literal (codes "foo") (codes "bar") ∷ []
unfolding rows
alone = refl

-- fields without a choice, and a choice without a field
fewer_choices : (chosen_rule (table 1) (bar ∷ bar ∷ get ∷ []) (line (References 1) ∷ [])).lines
    ≡ IndexedDynamic 1 ∷ Literal (codes "foo") (codes "bar") ∷ IndexedStatic 17 ∷ []
unfolding rows
fewer_choices = refl

more_choices : (chosen_rule (table 1) (bar ∷ []) (line (References 1) ∷ twice Inserts ∷ [])).instructions ≡ []
unfolding rows
more_choices = refl

-- ---- a reference

-- entries that are received, where no block may be blocked
referenced : (chosen_rule (table 0) (bar ∷ baz ∷ []) (line (References 1) ∷ line (References 2) ∷ [])).lines
    ≡ IndexedDynamic 1 ∷ IndexedDynamic 0 ∷ []
unfolding rows
referenced = refl

references_required : required_insert_count (chosen_rule (table 0) (bar ∷ []) (line (References 1) ∷ [])) ≡ 1
unfolding rows
references_required = refl

-- an entry that is not received, where one block may be blocked, and at the limit of 0 and of 1
not_received_below : (chosen_rule (unknown 1) (bar ∷ []) (line (References 1) ∷ [])).lines ≡ IndexedDynamic 1 ∷ []
unfolding rows
not_received_below = refl

not_received : (chosen_rule (unknown 0) (bar ∷ []) (line (References 1) ∷ [])).lines
    ≡ Literal (codes "foo") (codes "bar") ∷ []
unfolding rows
not_received = refl

not_received_at_limit : (chosen_rule at_limit (bar ∷ []) (line (References 1) ∷ [])).lines
    ≡ Literal (codes "foo") (codes "bar") ∷ []
unfolding rows
not_received_at_limit = refl

-- the first two entries that are live, one that was evicted, and one that was never inserted
evicted : (chosen_rule later (bar ∷ baz ∷ bar ∷ bar ∷ [])
    (line (References 3) ∷ line (References 4) ∷ line (References 2) ∷ line (References 5) ∷ [])).lines
    ≡ IndexedDynamic 1 ∷ IndexedDynamic 0 ∷ Literal (codes "foo") (codes "bar") ∷ Literal (codes "foo") (codes "bar")
    ∷ []
unfolding rows
evicted = refl

-- no entry has index 0, and an entry of another value does not equal the field
not_equal : (chosen_rule (table 1) (bar ∷ bar ∷ []) (line (References 0) ∷ line (References 2) ∷ [])).lines
    ≡ Literal (codes "foo") (codes "bar") ∷ Literal (codes "foo") (codes "bar") ∷ []
unfolding rows
not_equal = refl

nothing_referenced : required_insert_count
    (chosen_rule (table 1) (bar ∷ bar ∷ []) (line (References 0) ∷ line (References 2) ∷ [])) ≡ 0
unfolding rows
nothing_referenced = refl

-- ---- the name of an entry

-- of one that is received, and of one whose name is another
named : (chosen_rule (table 0) (qux ∷ other ∷ []) (line (Names 1) ∷ line (Names 1) ∷ [])).lines
    ≡ NamedDynamic 1 (codes "qux") ∷ Literal (codes "oof") (codes "bar") ∷ []
unfolding rows
named = refl

names_required : required_insert_count (chosen_rule (table 0) (qux ∷ []) (line (Names 2) ∷ [])) ≡ 2
unfolding rows
names_required = refl

-- of one that is not received, below the limit and at it
name_not_received_below : (chosen_rule (unknown 1) (qux ∷ []) (line (Names 2) ∷ [])).lines
    ≡ NamedDynamic 0 (codes "qux") ∷ []
unfolding rows
name_not_received_below = refl

name_not_received : (chosen_rule (unknown 0) (qux ∷ []) (line (Names 2) ∷ [])).lines
    ≡ Literal (codes "foo") (codes "qux") ∷ []
unfolding rows
name_not_received = refl

-- of one that was evicted, and of one that was never inserted
name_evicted : (chosen_rule later (qux ∷ qux ∷ []) (line (Names 2) ∷ line (Names 5) ∷ [])).lines
    ≡ Literal (codes "foo") (codes "qux") ∷ Literal (codes "foo") (codes "qux") ∷ []
unfolding rows
name_evicted = refl

-- ---- an insertion that the line references

inserted : (chosen_rule (table 1) (qux ∷ []) (line Inserts ∷ [])).lines ≡ IndexedPostBase 0 ∷ []
unfolding rows
inserted = refl

insertion : (chosen_rule (table 1) (qux ∷ []) (line Inserts ∷ [])).instructions
    ≡ InsertDynamicName 0 (codes "qux") ∷ []
unfolding rows
insertion = refl

inserted_required : required_insert_count (chosen_rule (table 1) (qux ∷ []) (line Inserts ∷ [])) ≡ 3
unfolding rows
inserted_required = refl

-- at the limit of 0, and of 1, there is none
not_inserted_at_0 : (chosen_rule (table 0) (qux ∷ []) (line Inserts ∷ [])).instructions ≡ []
unfolding rows
not_inserted_at_0 = refl

not_inserted_at_limit : (chosen_rule at_limit (qux ∷ []) (line Inserts ∷ [])).instructions ≡ []
unfolding rows
not_inserted_at_limit = refl

literal_at_limit : (chosen_rule at_limit (qux ∷ []) (line Inserts ∷ [])).lines
    ≡ Literal (codes "foo") (codes "qux") ∷ []
unfolding rows
literal_at_limit = refl

-- nor without room: each entry is referenced by the block, or not received
no_room : (chosen_rule (full 1) (bar ∷ qux ∷ []) (line (References 1) ∷ line Inserts ∷ [])).lines
    ≡ IndexedDynamic 1 ∷ Literal (codes "foo") (codes "qux") ∷ []
unfolding rows
no_room = refl

no_room_unknown : (chosen_rule (record (unknown 1) { capacity = 76 }) (qux ∷ []) (line Inserts ∷ [])).instructions ≡ []
unfolding rows
no_room_unknown = refl

-- an entry that is evictable makes room
evicts : (chosen_rule (full 1) (qux ∷ []) (line Inserts ∷ [])).table.dropped ≡ 1
unfolding rows
evicts = refl

-- ---- an insertion that no line references

-- at the limit of 0 the line is a literal, and nothing is referenced or required
unreferenced_line : (chosen_rule (empty_table 128 (Some 128) 0) (bar ∷ []) (twice Alone ∷ [])).lines
    ≡ Literal (codes "foo") (codes "bar") ∷ []
unfolding rows
unreferenced_line = refl

unreferenced_insertion : (chosen_rule (empty_table 128 (Some 128) 0) (bar ∷ []) (twice Alone ∷ [])).instructions
    ≡ InsertLiteralName (codes "foo") (codes "bar") ∷ []
unfolding rows
unreferenced_insertion = refl

unreferenced_entry : (chosen_rule (empty_table 128 (Some 128) 0) (bar ∷ []) (twice Alone ∷ [])).table.live
    ≡ sent_entry (field (codes "foo") (codes "bar")) ∷ []
unfolding rows
unreferenced_entry = refl

unreferenced_required : (chosen_rule (empty_table 128 (Some 128) 1) (bar ∷ []) (twice Alone ∷ [])).table.referenced ≡ []
unfolding rows
unreferenced_required = refl

-- a referenced entry is duplicated after its line, unless there is no room without that entry
duplicated : (chosen_rule (table 0) (bar ∷ []) (twice (References 1) ∷ [])).instructions ≡ Duplicate 1 ∷ []
unfolding rows
duplicated = refl

duplicate_unreferenced : (chosen_rule (table 0) (bar ∷ []) (twice (References 1) ∷ [])).table.referenced ≡ 1 ∷ []
unfolding rows
duplicate_unreferenced = refl

duplicate_without_room : (chosen_rule (full 0) (bar ∷ []) (twice (References 1) ∷ [])).instructions ≡ []
unfolding rows
duplicate_without_room = refl

-- where the line is a literal that entry may be evicted
unreferenced_evicts : (chosen_rule (full 0) (bar ∷ []) (twice Alone ∷ [])).instructions
    ≡ InsertDynamicName 0 (codes "bar") ∷ []
unfolding rows
unreferenced_evicts = refl

-- ---- what an insertion names

-- the entry that it evicts, whose field is the new one, or whose name is
duplicates_evicted : (chosen_rule (full 1) (bar ∷ []) (live (line Inserts) ∷ [])).instructions ≡ Duplicate 1 ∷ []
unfolding rows
duplicates_evicted = refl

duplicates_evicted_unreferenced : (chosen_rule (full 0) (bar ∷ []) (live (twice Alone) ∷ [])).instructions
    ≡ Duplicate 1 ∷ []
unfolding rows
duplicates_evicted_unreferenced = refl

names_evicted : (chosen_rule (single 1) (qux ∷ []) (live (line Inserts) ∷ [])).instructions
    ≡ InsertDynamicName 0 (codes "qux") ∷ []
unfolding rows
names_evicted = refl

-- that entry is gone, and the line references the new one
evicted_is_gone : (chosen_rule (full 1) (bar ∷ []) (live (line Inserts) ∷ [])).table.dropped ≡ 1
unfolding rows
evicted_is_gone = refl

line_of_evicted : (chosen_rule (full 1) (bar ∷ []) (live (line Inserts) ∷ [])).lines ≡ IndexedPostBase 0 ∷ []
unfolding rows
line_of_evicted = refl

-- the same among those that stay: the name of another entry, and no name
names_another : (chosen_rule (full 1) (bar ∷ []) (line Inserts ∷ [])).instructions
    ≡ InsertDynamicName 0 (codes "bar") ∷ []
unfolding rows
names_another = refl

names_none : (chosen_rule (single 1) (qux ∷ []) (line Inserts ∷ [])).instructions
    ≡ InsertLiteralName (codes "foo") (codes "qux") ∷ []
unfolding rows
names_none = refl

-- an index counts from the insertions before this one, also where entries are evicted
names_what_stays : (chosen_rule (full 1) (baz ∷ []) (live (line Inserts) ∷ [])).instructions ≡ Duplicate 0 ∷ []
unfolding rows
names_what_stays = refl

-- ---- an entry of the block itself

-- by its index after the base, below the limit
of_the_block : (chosen_rule (table 1) (qux ∷ qux ∷ bar ∷ [])
    (line Inserts ∷ line (References 3) ∷ line (Names 3) ∷ [])).lines
    ≡ IndexedPostBase 0 ∷ IndexedPostBase 0 ∷ NamedPostBase 0 (codes "bar") ∷ []
unfolding rows
of_the_block = refl

unreferenced_of_the_block : (chosen_rule (table 1) (qux ∷ qux ∷ []) (twice Alone ∷ line (References 3) ∷ [])).lines
    ≡ Literal (codes "foo") (codes "qux") ∷ IndexedPostBase 0 ∷ []
unfolding rows
unreferenced_of_the_block = refl

-- and not at the limit, since it is not received
of_the_block_at_limit : (chosen_rule (table 0) (qux ∷ qux ∷ []) (twice Alone ∷ line (References 3) ∷ [])).lines
    ≡ Literal (codes "foo") (codes "qux") ∷ Literal (codes "foo") (codes "qux") ∷ []
unfolding rows
of_the_block_at_limit = refl

-- ---- a marked field

-- it is a literal whatever is chosen, by the name of an entry where that is chosen, and is never inserted
marked_lines : (chosen_rule (table 1) (marked ∷ marked ∷ marked ∷ marked ∷ [])
    (twice Alone ∷ twice (References 1) ∷ twice (Names 2) ∷ twice Inserts ∷ [])).lines
    ≡ Literal (codes "foo") (codes "bar") ∷ Literal (codes "foo") (codes "bar") ∷ NamedDynamic 0 (codes "bar")
    ∷ Literal (codes "foo") (codes "bar") ∷ []
unfolding rows
marked_lines = refl

marked_not_inserted : (chosen_rule (table 1) (marked ∷ marked ∷ marked ∷ marked ∷ [])
    (twice Alone ∷ twice (References 1) ∷ twice (Names 2) ∷ twice Inserts ∷ [])).instructions ≡ []
unfolding rows
marked_not_inserted = refl
