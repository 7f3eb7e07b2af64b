-- Worked rows of what an encoder asks of its table, computed by the definitions.
use Rattle.std.proofs.Common.{ℕ, ◌≡◌, List, [], ◌∷◌, None, Err, refl}
use Rattle.std.specs.Prelude.{codes}
use Rattle.qpack_spec.specs.Field.{Field}
use Rattle.qpack_spec.specs.StaticTable.{field}
use Rattle.qpack_spec.specs.Instruction.{Acknowledgment}
use Rattle.qpack_spec.specs.Window.{UnknownStream}
use Rattle.qpack_spec.specs.Table.{Table, empty_table, with_entry, commit, without_references, with_increment}
use Rattle.qpack_spec.specs.Table.{apply_decoder_instruction, put_entry}
use Rattle.qpack_spec.specs.Handle.{AtRelative, NotFound, find_field, Insertion, Duplicated, InsertedWithStaticName}
use Rattle.qpack_spec.specs.Handle.{InsertedWithName, Inserted, NotInserted, insert_field}
use Rattle.qpack_spec.proofs.Computing.{computed}

-- fields put in turn into a table with room for them
putting : List Field → Table → Table
putting [] t = t
putting (f ∷ fs) t = putting fs (with_entry t (put_entry f))

-- the answers of insertions in turn, and the table behind them
asked : ℕ → Table → List Field → List Insertion
asked base t [] = []
asked base t (f ∷ fs) = (insert_field t base f).insertion ∷ asked base (insert_field t base f).table fs

behind : ℕ → Table → List Field → Table
behind base t [] = t
behind base t (f ∷ fs) = behind base (insert_field t base f).table fs

names_ab : Table
names_ab =
    putting ((field (codes "Name-A") (codes "Value-A")) ∷ (field (codes "Name-B") (codes "Value-B")) ∷ [])
    (empty_table 4096 None 100)

-- a table at which a block was given up behind an insertion, and one at which a block was written
given_up_once : Table
given_up_once =
    without_references (behind 0 (empty_table 64 None 100)
    ((field (codes "foo") (codes "bar")) ∷ (field (codes "foo2") (codes "bar")) ∷ []))

written_once : Table
written_once = commit (behind 0 (empty_table 4096 None 1) ((field (codes "foo") (codes "bar")) ∷ [])) 4 1

-- all that has to unfold
rows : ℕ
unfolding computed putting asked behind names_ab given_up_once written_once find_field insert_field
rows = 0

-- an entry before the base
find_old : ((find_field names_ab 2 (field (codes "Name-A") (codes "Value-A"))).lookup) ≡ AtRelative 1 1
unfolding rows
find_old = refl

-- a duplicate, two names and a literal
insert_each : (asked 2 names_ab ((field (codes "Name-A") (codes "Value-A"))
    ∷ (field (codes "Name-B") (codes "New Value-B")) ∷ (field (codes "Name-B") (codes "Newer Value-B"))
    ∷ (field (codes "Name-C") (codes "Value-C")) ∷ [])) ≡ Duplicated 1 0 3 ∷ InsertedWithName 1 1 4
    ∷ InsertedWithName 0 2 5 ∷ Inserted 3 6 ∷ []
unfolding rows
insert_each = refl

-- what the block in progress names makes no room
no_room_named : (asked 0 (empty_table 64 None 100)
    ((field (codes "foo") (codes "bar")) ∷ (field (codes "foo2") (codes "bar")) ∷ []))
    ≡ Inserted 0 1 ∷ NotInserted NotFound ∷ []
unfolding rows
no_room_named = refl

-- nor does what is not received, when the block was given up
no_room_unreceived : (asked 1 given_up_once ((field (codes "foo2") (codes "bar")) ∷ [])) ≡ NotInserted NotFound ∷ []
unfolding rows
no_room_unreceived = refl

-- once it is received there is room
room_received : (asked 1 (with_increment given_up_once 1) ((field (codes "foo2") (codes "bar")) ∷ []))
    ≡ Inserted 0 2 ∷ []
unfolding rows
room_received = refl

-- at the limit an unreceived entry is not found
at_limit : ((find_field written_once 1 (field (codes "foo") (codes "bar"))).lookup) ≡ NotFound
unfolding rows
at_limit = refl

-- and nothing is inserted
at_limit_insert : (asked 1 written_once ((field (codes "foo") (codes "bar")) ∷ [])) ≡ NotInserted NotFound ∷ []
unfolding rows
at_limit_insert = refl

-- once it is received it is found
at_limit_received : ((find_field (with_increment written_once 1) 1 (field (codes "foo") (codes "bar"))).lookup)
    ≡ AtRelative 0 1
unfolding rows
at_limit_received = refl

-- the equal entry goes first
equal_goes : (asked 2 (putting ((field (codes "foo") (codes "bar")) ∷ (field (codes "baz") (codes "bar")) ∷ [])
    (empty_table 76 None 100)) ((field (codes "foo") (codes "bar")) ∷ [])) ≡ Inserted 0 3 ∷ []
unfolding rows
equal_goes = refl

-- the newest entry of the name
newest_name : (asked 2 (putting ((field (codes "foo") (codes "zzz")) ∷ (field (codes "foo") (codes "aaa")) ∷ [])
    (empty_table 4096 None 1)) ((field (codes "foo") (codes "mmm")) ∷ [])) ≡ InsertedWithName 0 0 3 ∷ []
unfolding rows
newest_name = refl

-- an entry of the block itself, which its insertion refers to and does not hold
name_of_the_block : (asked 1 (putting ((field (codes "foo") (codes "bar")) ∷ []) (empty_table 95 None 100))
    ((field (codes "foo") (codes "quxx")) ∷ (field (codes "foo") (codes "baz")) ∷ []))
    ≡ InsertedWithName 0 0 2 ∷ InsertedWithName 0 1 3 ∷ []
unfolding rows
name_of_the_block = refl

-- a static name
static_name : (asked 0 (empty_table 4096 None 1) ((field (codes ":method") (codes "x")) ∷ []))
    ≡ InsertedWithStaticName 0 15 1 ∷ []
unfolding rows
static_name = refl

-- a block that names nothing is not open
not_opened : (apply_decoder_instruction (commit (empty_table 4096 None 100) 4 0) (Acknowledgment 4))
    ≡ Err (UnknownStream 4)
unfolding rows
not_opened = refl
