-- The sorted index of the dynamic table's live entries: their absolute indexes, in the order of their fields.
use Rattle.std.specs.Prelude.{◌≡◌, ℕ, ◌+◌, ◌<◌, ◌≤◌, List, length, slice_index_or}
use Rattle.std.specs.Prelude.{Result, Ok, Err, Contains, ◌≢◌}
use Rattle.std.specs.List.{AllPairs}
use Rattle.std.specs.declared.cmp.Ordering.{Ordering}
use Rattle.std.specs.declared.cmp.Ordering.TheVariants.{Less, Equal, Greater}
use Rattle.std.specs.Ordering.{nat_cmp, ordering_then}
use Rattle.qpack_base.specs.HeaderFields.{field_cmp}
use Rattle.qpack_spec.specs.Field.{Field}
use Rattle.qpack_table.specs.Rows.{field_at, part_at, part_of}
use Rattle.qpack_table.specs.declared.dynamic.comparing.Part.{Part}
use Rattle.qpack_table.specs.declared.dynamic.sorted.End.{End}
use Rattle.qpack_table.specs.declared.dynamic.sorted.End.TheVariants.{First, Last}

-- the order of two live indexes: by the fields of their entries, name then value, then by themselves
unfoldable pub index_cmp : ℕ → List Field → ℕ → ℕ → Ordering
index_cmp dropped live a b = ordering_then (field_cmp (field_at dropped live a) (field_at dropped live b)) (nat_cmp a b)

-- the indexes of the oldest live entries, `entered` of them, each once, and no others
pub record IsSortedIndexOf (dropped : ℕ) (live : List Field) (entered : ℕ) (sorted : List ℕ) : Type 0 where
  pub only : (index : ℕ) → Contains sorted index → (dropped < index) × (index ≤ dropped + entered)
  pub all : (index : ℕ) → dropped < index → index ≤ dropped + entered → Contains sorted index
  pub rises : AllPairs (λ a b. index_cmp dropped live a b ≡ Less) sorted

-- where an entry stands beside what is sought
abbrev pub order_at : Part → ℕ → List Field → Field → ℕ → Ordering
order_at part dropped live f index = field_cmp (part_at part dropped live index) (part_of part f)

-- the entries before a position, and those from it on: at the end of what is sought, or at its beginning
abbrev pub StandsBefore : End → Ordering → Type 0
StandsBefore First order = order ≡ Less
StandsBefore Last order = order ≢ Greater

abbrev pub StandsBehind : End → Ordering → Type 0
StandsBehind First order = order ≢ Less
StandsBehind Last order = order ≡ Greater

pub record IsEndAt (part : Part) (dropped : ℕ) (live : List Field) (sorted : List ℕ) (f : Field) (end : End)
    (position : ℕ) : Type 0 where
  pub within : position ≤ length sorted
  pub before : (j d : ℕ) → j < position → StandsBefore end (order_at part dropped live f (slice_index_or sorted j d))
  pub behind : (j d : ℕ) → position ≤ j → j < length sorted
      → StandsBehind end (order_at part dropped live f (slice_index_or sorted j d))

-- the run of what is sought has an entry
pub record HasRun (part : Part) (dropped : ℕ) (live : List Field) (sorted : List ℕ) (f : Field) : Type 0 where
  pub position : ℕ
  pub within : position < length sorted
  pub equal : (d : ℕ) → order_at part dropped live f (slice_index_or sorted position d) ≡ Equal

-- what a search found: the end of a run, or where there is none
abbrev pub IsEnd : Part → ℕ → List Field → List ℕ → Field → End → Result ℕ ℕ → Type 0
IsEnd part dropped live sorted f end (Ok position) =
    IsEndAt part dropped live sorted f end position × HasRun part dropped live sorted f
IsEnd part dropped live sorted f end (Err position) =
    IsEndAt part dropped live sorted f end position × (HasRun part dropped live sorted f → ⊥)
