-- What a strict decoder refuses besides, and that the rule writes none of it.
use Rattle.std.specs.Prelude.{◌≡◌, ◌≤◌, ℕ, false, List, []}
use Rattle.std.specs.List.{AllByRecursion}
use Rattle.qpack_spec.specs.Field.{Field}
use Rattle.qpack_spec.specs.Line.{Line}
use Rattle.qpack_spec.specs.Reading.{Block, references_of}
use Rattle.qpack_spec.specs.Rule.{rule, required_insert_count, block_of}
use Rattle.qpack_spec.specs.Table.{Table, insert_count}
use Rattle.qpack_spec.specs.Window.{maximum_capacity}

-- no line references an entry past the required insert count (section 2.2.3)
abbrev pub ReferencesWithin : ℕ → ℕ → List Line → Type 0
ReferencesWithin required base lines = AllByRecursion (λ a. a ≤ required) (references_of base lines)

-- a section of this required insert count and base, under this maximum capacity, that a strict decoder reads too: its
-- lines reference nothing past its count; if the maximum is 0 it encodes no count (section 4.5.1.1); and if it requires
-- nothing its base is not below 0 (section 4.5.1.2)
pub record IsStrict (maximum required base : ℕ) (b : Block) : Type 0 where
  pub references : ReferencesWithin required base b.lines
  pub no_count : maximum ≡ 0 → b.prefix.count ≡ 0
  pub not_below : required ≡ 0 → b.prefix.sign ≡ false

-- every section that the rule writes is such a section
abbrev pub WrittenSectionsAreStrict : Type 0
WrittenSectionsAreStrict =
    (t : Table) (fields : List Field)
    → (let d = rule t fields in
    IsStrict (maximum_capacity t.agreed_max t.capacity) (required_insert_count d) (insert_count t) (block_of t d))

-- at capacity 0 the rule inserts nothing (section 3.2.2)
abbrev pub NothingIsInsertedAtZero : Type 0
NothingIsInsertedAtZero = (t : Table) (fields : List Field) → t.capacity ≡ 0 → (rule t fields).instructions ≡ []
