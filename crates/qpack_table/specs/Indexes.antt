-- The index of the dynamic table's live entries: one row of absolute indexes by their fields, one by their names.
use Rattle.std.specs.Prelude.{◌≡◌, ◌≢◌, ℕ, ◌≤◌, Bool, List, vec_capacity, Option, MatchOption}
use Rattle.qpack_spec.specs.Field.{Field}
use Rattle.qpack_spec.specs.Table as table
use Rattle.qpack_spec.specs.Table.{Table, newest_index}
use Rattle.qpack_table.specs.Hashes.{field_hash, name_hash}
use Rattle.qpack_table.specs.Rows.{part_at, IsLiveIndex, IsRowOf, HasRoom, HasFewSpareSlots}
use Rattle.qpack_table.specs.declared.dynamic.index.Index.{Index}
use Rattle.qpack_table.specs.declared.dynamic.index.hash.Hashes.{Hashes}
use Rattle.qpack_table.specs.declared.dynamic.index.hash.SeededHashes.{SeededHashes}
use Rattle.qpack_table.specs.declared.dynamic.comparing.Part.{Part}
use Rattle.qpack_table.specs.declared.dynamic.comparing.Part.TheVariants.{Name, Whole}

-- the newest live index with such a part, or none if no live entry has it
abbrev pub FindsNewest : Part → ℕ → List Field → Field → Option ℕ → Type 0
FindsNewest part dropped live f found =
    MatchOption found ((other : ℕ) → IsLiveIndex dropped live other → part_at part dropped live other ≢ f)
    (λ index. IsLiveIndex dropped live index × (part_at part dropped live index ≡ f)
    × ((other : ℕ) → IsLiveIndex dropped live other → part_at part dropped live other ≡ f → other ≤ index))

-- the hashes of a field under a seed
abbrev pub AreHashesOf : (seed : ℕ) → Hashes → Field → Type 0
AreHashesOf seed hashes f = (hashes.name ≡ name_hash seed f.name) × (hashes.field ≡ field_hash seed f)

-- its hashes under the seed that is with them
abbrev pub AreSeededHashesOf : SeededHashes → Field → Type 0
AreSeededHashesOf known f = AreHashesOf known.seed known.hashes f

-- the oldest live entries, `entered` of them, are in the index
pub record IsIndexOf (dropped : ℕ) (live : List Field) (entered : ℕ) (index : Index) : Type 0 where
  pub fields : IsRowOf (Whole index.seed) dropped live entered index.fields.slots.items
  pub names : IsRowOf (Name index.seed) dropped live entered index.names.slots.items

-- the index keeps its slots and its seed, so it is that of the same entries
pub record KeepsSlots (old new : Index) : Type 0 where
  pub fields : new.fields.slots.items ≡ old.fields.slots.items
  pub names : new.names.slots.items ≡ old.names.slots.items
  pub seed : new.seed ≡ old.seed

-- an index without memory for any slot
abbrev pub HasNoSlots : Index → Type 0
HasNoSlots index = (vec_capacity index.fields.slots ≡ 0) × (vec_capacity index.names.slots ≡ 0)

-- there is room for one more entry
pub record HasRoomForEntry (index : Index) : Type 0 where
  pub field : HasRoom index.fields
  pub name : HasRoom index.names

-- an index has no more room than one that grew at that many entries
pub record HasFewSpare (most : ℕ) (index : Index) : Type 0 where
  pub fields : HasFewSpareSlots most index.fields
  pub names : HasFewSpareSlots most index.names

-- what the definitions answer for each table with these entries
abbrev pub IsNewestIn : ℕ → List table.Entry → (Field → Bool) → Option ℕ → Type 0
IsNewestIn dropped live passes found = (t : Table) → t.dropped ≡ dropped → t.live ≡ live
    → newest_index t passes ≡ found
