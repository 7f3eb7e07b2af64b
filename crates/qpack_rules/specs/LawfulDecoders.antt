-- What a decoder that follows the standard may write on the decoder stream, and what an encoder keeps for any decoder,
-- as statements (RFC 9204, sections 2.1, 2.2.2 and 4.4).
use Rattle.std.specs.Prelude.{◌≡◌, ℕ, ◌+◌, ◌^◌, ◌<◌, ◌≤◌, max, Bool, false, List, [], ◌∷◌, ◌++◌, length, None, Some, Ok}
use Rattle.std.specs.List.{AllByRecursion}
use Rattle.qpack_spec.specs.Chosen.{Chosen, Inserts, Naming, chosen_rule}
use Rattle.qpack_spec.specs.Field.{FieldLine, field_size, is_field}
use Rattle.qpack_spec.specs.Instruction.{DecoderInstruction, Acknowledgment, Cancellation, Increment}
use Rattle.qpack_spec.specs.Marked.{marked_rule, marked_fields}
use Rattle.qpack_spec.specs.Rule.{empty_draft, with_new_entry, required_insert_count}
use Rattle.qpack_spec.specs.StaticTable.{static_index}
use Rattle.qpack_rules.specs.StrictInstructions.{oldest_required, hear_in_turn}
use Rattle.qpack_spec.specs.Table.{Table, UnacknowledgedBlock, insert_count, without_oldest, without_stream}
use Rattle.qpack_spec.specs.Table.{newest_index}

-- ---- what a decoder may write

-- a decoder has decoded the oldest section of a stream, which requires no more than was received, and the others are
-- those that are not acknowledged then (sections 2.2.1 and 2.2.2.1)
pub record HasDecoded (received stream : ℕ) (sections : List UnacknowledgedBlock) : Type 0 where
  pub required : ℕ
  pub others : List UnacknowledgedBlock
  pub oldest : oldest_required stream sections ≡ Some required
  pub others_are : without_oldest stream sections ≡ Some others
  pub decoded : required ≤ received

-- what a decoder may write next that has received this many insertions and reported `told` of them, while these
-- sections are not acknowledged: an acknowledgment of the oldest section of a stream that it has decoded, which reports
-- that section's insertions too; the cancellation of a stream; and an increment above 0, of no more than was received
-- (sections 2.1.4 and 4.4)
abbrev pub MayWrite : (received told : ℕ) → List UnacknowledgedBlock → List DecoderInstruction → Type 0
MayWrite received told sections [] = Unit {0}
MayWrite received told sections (Acknowledgment stream ∷ more) =
    (d : HasDecoded received stream sections) × MayWrite received (max told d.required) d.others more
MayWrite received told sections (Cancellation stream ∷ more) =
    MayWrite received told (without_stream stream sections) more
MayWrite received told sections (Increment by ∷ more) =
    (0 < by) × (told + by ≤ received) × MayWrite received (told + by) sections more

-- ---- what an encoder keeps

-- an entry is in the table
abbrev pub IsHeld : Table → ℕ → Type 0
IsHeld t absolute = (t.dropped < absolute) × (absolute ≤ insert_count t)

-- nothing is evicted that a decoder may still need: each entry that an unacknowledged section references is in the
-- table, and each that is not known to be received (section 2.1.1)
pub record KeepsNeeded (t : Table) : Type 0 where
  pub referenced : AllByRecursion (λ b. AllByRecursion (IsHeld t) b.entries) t.unacknowledged
  pub unknown : (absolute : ℕ) → t.known_received_count < absolute → absolute ≤ insert_count t → IsHeld t absolute

-- nothing is under way: no section waits for its acknowledgment, and all insertions are known to be received
pub record IsQuiet (t : Table) : Type 0 where
  pub acknowledged : t.unacknowledged ≡ []
  pub known : insert_count t ≤ t.known_received_count

-- a field is one that is to be inserted: it may be indexed, it fits, and no equal field is in the static table or in
-- the table
pub record IsToBeInserted (t : Table) (l : FieldLine) : Type 0 where
  pub indexable : l.never_indexed ≡ false
  pub fits : field_size l.field ≤ t.capacity
  pub not_static : static_index l.field ≡ None
  pub not_there : newest_index t (is_field l.field) ≡ None

-- ---- what is promised

-- a strict encoder hears everything that such a decoder writes, and its known received count never exceeds what was
-- received
abbrev pub LawfulInstructionsAreHeard : Type 0
LawfulInstructionsAreHeard =
    (t : Table) (received : ℕ) (more : List DecoderInstruction)
    → MayWrite received t.known_received_count t.unacknowledged more → t.known_received_count ≤ received
    → received ≤ insert_count t → insert_count t < 2 ^ 64
    → (u : Table) × (hear_in_turn t more ≡ Ok u) × (u.known_received_count ≤ received)

-- what it may write it still may while the encoder writes more sections, which it does not know of yet
abbrev pub MoreSectionsChangeNothing : Type 0
MoreSectionsChangeNothing =
    (received told : ℕ) (sections later : List UnacknowledgedBlock) (more : List DecoderInstruction)
    → MayWrite received told sections more → MayWrite received told (sections ++ later) more

-- if nothing is under way, and fewer sections are blocked than may be, the first field of a section is inserted if it
-- is one to be inserted, and referenced, so that the section requires it; so only a decoder's own limits end
-- insertions, up to 2^62 of them
abbrev pub InsertionsGoOn : Type 0
InsertionsGoOn =
    (t : Table) (l : FieldLine) (more : List FieldLine) → IsQuiet t → IsToBeInserted t l
    → length t.blocked < t.limit → insert_count t < 2 ^ 62
    → (marked_rule t (l ∷ more)
    ≡ marked_fields (insert_count t) (with_new_entry (insert_count t) (empty_draft t) l.field) more)
    × (insert_count t < required_insert_count (marked_rule t (l ∷ more)))

-- under any choices for the other fields, if nothing is under way a section whose first field is chosen to be inserted
-- requires a new insertion (section 2.1.2)
abbrev pub ChosenInsertionsGoOn : Type 0
ChosenInsertionsGoOn =
    (t : Table) (l : FieldLine) (more : List FieldLine) (unreferenced : Bool) (names : Naming) (cs : List Chosen)
    → IsQuiet t → l.never_indexed ≡ false → field_size l.field ≤ t.capacity → length t.blocked < t.limit → insert_count t < 2 ^ 62
    → (let first : Chosen = record { line = Inserts; unreferenced = unreferenced; names = names } in
    insert_count t < required_insert_count (chosen_rule t (l ∷ more) (first ∷ cs)))
