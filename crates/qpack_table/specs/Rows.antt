-- A row of the dynamic table's index: slots with the absolute indexes of entries, in the order of a part of their
-- fields.
use Rattle.std.specs.Prelude.{◌≡◌, ◌≢◌, ℕ, ◌+◌, ◌-◌, ◌%◌, ◌<◌, ◌≤◌, ◌^◌, List, [], length, slice_index_or}
use Rattle.std.specs.Prelude.{Option, MatchOption, Result, Ok, Err, Contains, ◌⊎◌, max, vec_capacity}
use Rattle.std.specs.List.{AllPairs}
use Rattle.std.specs.declared.cmp.Ordering.{Ordering}
use Rattle.std.specs.declared.cmp.Ordering.TheVariants.{Less, Equal, Greater}
use Rattle.std.specs.Ordering.{nat_cmp, ordering_then}
use Rattle.qpack_base.specs.HeaderFields.{field_cmp, line_of}
use Rattle.qpack_spec.specs.Field.{Field}
use Rattle.qpack_table.specs.Growth.{grown}
use Rattle.qpack_table.specs.Hashes.{field_hash, name_hash}
use Rattle.qpack_table.specs.declared.dynamic.comparing.Part.{Part}
use Rattle.qpack_table.specs.declared.dynamic.comparing.Part.TheVariants.{Name, Whole}
use Rattle.qpack_table.specs.declared.dynamic.index.row.Row.{Row}
use Rattle.qpack_table.specs.declared.dynamic.index.row.Slot.{Slot}
use Rattle.qpack_table.specs.declared.dynamic.index.row.Sought.{Sought}

-- an absolute index is that of a live entry (RFC 9204, section 3.2.4, which begins at 0)
abbrev pub IsLiveIndex : ℕ → List Field → ℕ → Type 0
IsLiveIndex dropped live index = (dropped < index) × (index ≤ dropped + length live)

-- the absolute index of a slot's entry, of which the slot has the low 32 bits: the first with these after the dropped
-- ones
unfoldable pub index_of : ℕ → Slot → ℕ
index_of dropped s = dropped + (s.low + (2 ^ 32 - 1) - dropped % 2 ^ 32) % 2 ^ 32 + 1

-- the slot of an absolute index
abbrev pub slot_of : (hash index : ℕ) → Slot
slot_of hash index = record { hash = hash; low = index % 2 ^ 32 }

-- the field of a live entry's absolute index
abbrev pub field_at : ℕ → List Field → ℕ → Field
field_at dropped live index = slice_index_or live (index - dropped - 1) (record { name = []; value = [] })

-- a part of a field: its name alone, or all of it
abbrev pub part_of : Part → Field → Field
part_of (Name seed) f = record { name = f.name; value = [] }
part_of (Whole seed) f = f

-- the hash of that part under the seed
abbrev pub hash_of : Part → Field → ℕ
hash_of (Name seed) f = name_hash seed f.name
hash_of (Whole seed) f = field_hash seed f

-- the part of the field of a live entry's absolute index
abbrev pub part_at : Part → ℕ → List Field → ℕ → Field
part_at part dropped live index = part_of part (field_at dropped live index)

-- where a part stands among others
pub record Key : Type 0 where
  pub hash : ℕ
  pub field : Field

-- by its hash, then by itself
unfoldable pub key_cmp : Key → Key → Ordering
key_cmp k l = ordering_then (nat_cmp k.hash l.hash) (field_cmp k.field l.field)

abbrev pub key_at : Part → ℕ → List Field → Slot → Key
key_at part dropped live s = record { hash = s.hash; field = part_at part dropped live (index_of dropped s) }

-- a row has room for one more slot
abbrev pub HasRoom : Row → Type 0
HasRoom row = length row.slots.items < vec_capacity row.slots

-- the room of a row that grows
abbrev pub grown_slots : Row → ℕ
grown_slots row = grown 4 (length row.slots.items)

-- a row takes no more room than it had, or than one that grows
abbrev pub GrowsSlots : (old new : Row) → Type 0
GrowsSlots old new = vec_capacity new.slots ≤ max (vec_capacity old.slots) (grown_slots old)

-- a row has no more room than one that grew at that many slots
abbrev pub HasFewSpareSlots : ℕ → Row → Type 0
HasFewSpareSlots most row = vec_capacity row.slots ≤ grown 4 most

-- what is sought
abbrev pub field_of_sought : Sought → Field
field_of_sought s = part_of s.part (line_of s.line).field

abbrev pub key_of : Sought → Key
key_of s = record { hash = s.hash; field = field_of_sought s }

-- it has its part's hash
abbrev pub IsHashed : Sought → Type 0
IsHashed s = s.hash ≡ hash_of s.part (line_of s.line).field

-- a slot of a live index, with its part's hash
abbrev pub IsSlot : Part → ℕ → List Field → Slot → Type 0
IsSlot part dropped live s =
    IsLiveIndex dropped live (index_of dropped s) × (s.hash ≡ hash_of part (field_at dropped live (index_of dropped s)))

-- slots that rise, so no two have the same part
pub record IsRow (part : Part) (dropped : ℕ) (live : List Field) (row : List Slot) : Type 0 where
  pub slots : (s : Slot) → Contains row s → IsSlot part dropped live s
  pub rises : AllPairs (λ a b. key_cmp (key_at part dropped live a) (key_at part dropped live b) ≡ Less) row

-- a row has the slot of an index, or of a newer one with the same part
abbrev pub HasSlotOf : Part → ℕ → List Field → List Slot → ℕ → Type 0
HasSlotOf part dropped live row index =
    (s : Slot) × Contains row s × (index ≤ index_of dropped s) × (index_of dropped s ≤ dropped + length live)
    × (part_at part dropped live (index_of dropped s) ≡ part_at part dropped live index)

-- of the oldest live entries, `entered` of them, the newest of each part is in the row, and nothing else is
pub record IsRowOf (part : Part) (dropped : ℕ) (live : List Field) (entered : ℕ) (row : List Slot) : Type 0 where
  pub is_row : IsRow part dropped live row
  pub only : (s : Slot) → Contains row s → index_of dropped s ≤ dropped + entered
  pub complete : (index : ℕ) → dropped < index → index ≤ dropped + entered → HasSlotOf part dropped live row index

-- the slot at a position has what is sought
pub record IsMatch (part : Part) (dropped : ℕ) (live : List Field) (row : List Slot) (k : Key) (position : ℕ) : Type 0
  where
    pub within : position < length row
    pub equal : (d : Slot) → key_cmp (key_at part dropped live (slice_index_or row position d)) k ≡ Equal

-- no slot has it, and those before the position come before it
pub record IsGap (part : Part) (dropped : ℕ) (live : List Field) (row : List Slot) (k : Key) (position : ℕ) : Type 0
  where
    pub within : position ≤ length row
    pub before : (j : ℕ) (d : Slot) → j < position
        → key_cmp (key_at part dropped live (slice_index_or row j d)) k ≡ Less
    pub after : (j : ℕ) (d : Slot) → position ≤ j → j < length row
        → key_cmp (key_at part dropped live (slice_index_or row j d)) k ≡ Greater

-- what is known between two positions: before the lower one all come before what is sought, and from the higher one
-- on all come after it
pub record Searching (part : Part) (dropped : ℕ) (live : List Field) (row : List Slot) (k : Key) (low high : ℕ) :
    Type 0 where
  pub order : low ≤ high
  pub within : high ≤ length row
  pub before : (j : ℕ) (d : Slot) → j < low → key_cmp (key_at part dropped live (slice_index_or row j d)) k ≡ Less
  pub after : (j : ℕ) (d : Slot) → high ≤ j → j < length row
      → key_cmp (key_at part dropped live (slice_index_or row j d)) k ≡ Greater

-- what a search found: where it is, or where it would stand
abbrev pub IsPlace : Part → ℕ → List Field → List Slot → Key → Result ℕ ℕ → Type 0
IsPlace part dropped live row k (Ok position) = IsMatch part dropped live row k position
IsPlace part dropped live row k (Err position) = IsGap part dropped live row k position

-- the index of the row's slot whose entry has the part that is sought, or none if there is no such slot
abbrev pub FindsSlot : Part → ℕ → List Field → List Slot → Field → Option ℕ → Type 0
FindsSlot part dropped live row f found =
    MatchOption found ((s : Slot) → Contains row s → part_at part dropped live (index_of dropped s) ≢ f)
    (λ index. (s : Slot) × Contains row s × (index_of dropped s ≡ index) × (part_at part dropped live index ≡ f))

-- what a row has once a slot came in: that one, and those of other parts
pub record Enters (part : Part) (dropped : ℕ) (live : List Field) (old new : List Slot) (slot : Slot) : Type 0 where
  pub entered : Contains new slot
  pub kept : (s : Slot) → Contains old s
      → (part_at part dropped live (index_of dropped s) ≡ part_at part dropped live (index_of dropped slot))
      ⊎ Contains new s
  pub only : (s : Slot) → Contains new s → (slot ≡ s) ⊎ Contains old s

-- what it has once an index went out: those of other indexes
pub record Leaves (dropped : ℕ) (old new : List Slot) (index : ℕ) : Type 0 where
  pub kept : (s : Slot) → Contains old s → index_of dropped s ≢ index → Contains new s
  pub only : (s : Slot) → Contains new s → Contains old s
  pub gone : (s : Slot) → Contains new s → index_of dropped s ≢ index

-- the slot at a position is that of an index
pub record HasIndexAt (dropped : ℕ) (row : List Slot) (index position : ℕ) : Type 0 where
  pub within : position < length row
  pub is : (d : Slot) → index_of dropped (slice_index_or row position d) ≡ index

abbrev pub HasNoIndex : ℕ → List Slot → ℕ → Type 0
HasNoIndex dropped row index =
    (j : ℕ) (d : Slot) → j < length row → index_of dropped (slice_index_or row j d) ≢ index

-- a search among `n` raised the count by at most the binary digits of `n`, which are the fewest whose power of two is
-- above it; 0 has none
abbrev pub Counts : ℕ → ℕ → ℕ → Type 0
Counts n old new = (old ≤ new) × ((digits : ℕ) → n < 2 ^ digits → new ≤ old + digits)
