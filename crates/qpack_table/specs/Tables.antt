-- The dynamic table as the code keeps it.
use Rattle.std.specs.Prelude.{◌≡◌, ℕ, ◌+◌, ◌≤◌, ◌<◌, ◌^◌, ⊤, Bool, IsTrue, nat_eq, if◌then◌else◌}
use Rattle.std.specs.Prelude.{List, [], ◌∷◌, ◌++◌, map, length}
use Rattle.std.specs.Prelude.{Option, Some, None, IfSome, slice_get, Result, Ok, Err}
use Rattle.std.specs.List.{AllByRecursion, find}
use Rattle.std.specs.Option.{option_map}
use Rattle.std.specs.Borrow.{Bor}
use Rattle.qpack_base.specs.Refusals.{IsRefusedFor}
use Rattle.qpack_spec.specs.Field.{Field, total_size}
use Rattle.qpack_spec.specs.Table as table
use Rattle.qpack_spec.specs.Table.{has_number, fields_in, is_evictable}
use Rattle.qpack_spec.specs.Window.{TableRefusal, DoesNotFit, AboveMaximum, UnknownStream}
use Rattle.qpack_spec.specs.Reading.{Fault, BelowWindow, AboveWindow, BehindBase, greatest_of}
use Rattle.qpack_table.specs.Positions.{Positions}
use Rattle.qpack_table.specs.declared.dynamic.Error.{Error}
use Rattle.qpack_table.specs.declared.dynamic.Error.TheVariants.{BadRelativeIndex, BadPostbaseIndex, BadIndex}
use Rattle.qpack_table.specs.declared.dynamic.Error.TheVariants.{MaxTableSizeReached, MaximumTableSizeTooLarge, Memory}
use Rattle.qpack_table.specs.declared.dynamic.Error.TheVariants.{UnknownStreamId}
use Rattle.qpack_table.specs.Indexes.{IsIndexOf}
use Rattle.qpack_table.specs.Entries.{Entry}
use Rattle.qpack_table.specs.declared.dynamic.index.Index.{Index}

-- a live entry
abbrev pub entry_of : Entry → table.Entry
entry_of e = record { field = e.field; sent = e.sent }

abbrev pub entries_of : List Entry → List table.Entry
entries_of es = map (λ e. entry_of e) es

-- the fields of live entries, the oldest first
abbrev pub live_fields : List Entry → List Field
live_fields es = fields_in (entries_of es)

-- how often a number is among some
abbrev pub times : ℕ → List ℕ → ℕ
times a [] = 0
times a (x ∷ xs) = (if nat_eq x a then 1 else 0) + times a xs

-- the references of unacknowledged blocks
abbrev pub references_in : List table.UnacknowledgedBlock → List ℕ
references_in [] = []
references_in (b ∷ bs) = b.entries ++ references_in bs

-- no number is there twice
abbrev pub NoneTwice : List ℕ → Type 0
NoneTwice xs = (a : ℕ) → times a xs ≤ 1

-- each live entry is counted by how often these references have it
abbrev pub AreUsed : ℕ → List Entry → List ℕ → Type 0
AreUsed dropped live references =
    (position : ℕ) (e : Entry) → slice_get live position ≡ Some e → e.uses ≡ times (dropped + position + 1) references

-- each live entry says whether it is among these
abbrev pub AreFlagged : ℕ → List Entry → List ℕ → Type 0
AreFlagged dropped live referenced =
    (position : ℕ) (e : Entry) → slice_get live position ≡ Some e
    → e.referenced ≡ has_number (dropped + position + 1) referenced

-- the references that the entries count, and those of the block in progress that they know
abbrev pub uses_of : List Entry → List ℕ
uses_of es = map (λ e. e.uses) es

abbrev pub flags_of : List Entry → List Bool
flags_of es = map (λ e. e.referenced) es

-- each live entry counts these references, or more
abbrev pub AreCounted : ℕ → List Entry → List ℕ → Type 0
AreCounted dropped live references =
    (position : ℕ) (e : Entry) → slice_get live position ≡ Some e → times (dropped + position + 1) references ≤ e.uses

-- what the table keeps of its references: each entry says whether the block in progress references it, and counts its
-- uses by that block and the unacknowledged ones, which are at most 2^62; a block references an entry once, and none
-- that was never inserted
pub record CountsReferences (positions : Positions) (live : List Entry) (referenced : List ℕ)
    (unacknowledged : List table.UnacknowledgedBlock) : Type 0 where
  pub flagged : AreFlagged positions.dropped live referenced
  pub used : AreUsed positions.dropped live (referenced ++ references_in unacknowledged)
  pub once : NoneTwice referenced
  pub each_once : AllByRecursion (λ b. NoneTwice b.entries) unacknowledged
  pub behind : (absolute : ℕ) → positions.total < absolute
      → times absolute (referenced ++ references_in unacknowledged) ≡ 0
  pub few : length unacknowledged ≤ 2 ^ 62

-- the positions of the table are those of its entries, whose sizes are added up and fit the capacity
pub record IsSized (positions : Positions) (live : List Entry) (size capacity : ℕ) : Type 0 where
  pub counted : positions.total ≡ positions.dropped + length live
  pub sum : size ≡ total_size (fields_in (entries_of live))
  pub fits : size ≤ capacity
  pub small : capacity < 2 ^ 30

-- the live entries are in the index
abbrev pub IsIndexOfEntries : Index → ℕ → List Entry → Type 0
IsIndexOfEntries index dropped live = IsIndexOf dropped (live_fields live) (length live) index

-- what the table keeps: its sizes, its references, and what finds its entries, of which they are all
pub record IsKept (positions : Positions) (live : List Entry) (size capacity : ℕ) (referenced : List ℕ)
    (unacknowledged : List table.UnacknowledgedBlock) (is_index_of : ℕ → List Entry → Type 0) : Type 0
  where
    pub sized : IsSized positions live size capacity
    pub references : CountsReferences positions live referenced unacknowledged
    pub indexed : is_index_of positions.dropped live

-- a stream's oldest block is taken out: what the blocks reference is what it references and what the others do
pub record IsTaken (stream : ℕ) (block : table.UnacknowledgedBlock) (old new : List table.UnacknowledgedBlock) : Type 0
  where
    pub left : table.without_oldest stream old ≡ Some new
    pub first : find (λ b. nat_eq b.stream stream) old ≡ Some block
    pub references : (a : ℕ) → times a (references_in old) ≡ times a block.entries + times a (references_in new)

-- the required insert count of a block: the greatest absolute index that its lines reference (section 2.1.2)
abbrev pub required_by : table.UnacknowledgedBlock → ℕ
required_by b = greatest_of b.entries

-- the required insert count of the oldest unacknowledged block of a stream
abbrev pub oldest_required : ℕ → List table.UnacknowledgedBlock → Option ℕ
oldest_required stream bs = option_map required_by (find (λ b. nat_eq b.stream stream) bs)

-- the result says whether the live entry at a position is evictable
abbrev pub IsEvictableAt : table.Table → ℕ → Bool → Type 0
IsEvictableAt t position answer =
    IfSome (slice_get t.live position) (λ e. answer ≡ is_evictable t (t.dropped + position + 1) e.sent)

-- ---- what the calls return

-- the fault of a lookup that an error reports (section 3.2)
abbrev pub lookup_fault_of : Error → Option Fault
lookup_fault_of (BadRelativeIndex index) = Some (BelowWindow index)
lookup_fault_of (BadPostbaseIndex index) = Some (BehindBase index)
lookup_fault_of (BadIndex position) = Some (AboveWindow position)
lookup_fault_of e = None

-- the refusal of a change that an error reports (sections 3.2.2, 3.2.3 and 4.4.1)
abbrev pub refusal_of : Error → Option TableRefusal
refusal_of MaxTableSizeReached = Some DoesNotFit
refusal_of MaximumTableSizeTooLarge = Some AboveMaximum
refusal_of (UnknownStreamId stream) = Some (UnknownStream stream)
refusal_of e = None

-- a stored field that was looked for, or the refusal of the index
abbrev pub LooksUp : {S : Type 0} → (S → Field) → Result (Bor S) Error → Result Field Fault → Type 0
LooksUp field (Ok found) read = read ≡ Ok (field found.now)
LooksUp field (Err e) read = IsRefusedFor read (lookup_fault_of e)

-- the table is what the definition makes of it, or unchanged if that is refused
abbrev pub Changes : Result ⊤ Error → Result table.Table TableRefusal → table.Table → table.Table → Type 0
Changes (Ok done) read old new = read ≡ Ok new
Changes (Err e) read old new = IsRefusedFor read (refusal_of e) × (new ≡ old)

-- a change that asks for memory if `asks` holds; if memory is refused, the table is unchanged too
abbrev pub ChangesWithMemory : Type 0 → Result ⊤ Error → Result table.Table TableRefusal → table.Table → table.Table
    → Type 0
ChangesWithMemory asks (Err Memory) read old new = asks × (new ≡ old)
ChangesWithMemory asks result read old new = Changes result read old new

-- a field that is put would be inserted: the capacity is above 0, and there is room for the field (sections 2.1.1 and
-- 3.2.2)
abbrev pub IsInserted : table.Table → Field → Type 0
IsInserted t f = (0 < t.capacity) × IsTrue (table.has_room t f)
