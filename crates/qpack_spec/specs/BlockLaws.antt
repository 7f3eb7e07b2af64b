-- What every reader of field sections relies on, as statements; the crate's law functions promise them.
use Rattle.std.specs.Prelude.{◌≡◌, ℕ, ◌+◌, ◌<◌, ◌≤◌, ◌↔◌, List, [], ◌++◌, Result, Ok}
use Rattle.qpack_spec.specs.Field.{Field}
use Rattle.qpack_spec.specs.Prefix.{Prefix, IsRequired, required_at, SpellsPrefix, prefix_at}
use Rattle.qpack_spec.specs.Window.{Window}
use Rattle.qpack_spec.specs.Reading.{Fault, references_of, greatest_of}
use Rattle.qpack_spec.specs.BlockReading.{ReadsTo, fields_in_bytes}
use Rattle.qpack_spec.specs.Table.{Table, insert_count, with_numbers, with_unacknowledged}
use Rattle.qpack_spec.specs.Rule.{rule, required_insert_count, committed_table}

-- reading from left to right finds exactly the prefix at the front
abbrev pub ReadingFindsPrefixes : Type 0
ReadingFindsPrefixes =
    (bytes : List ℕ) (p : Prefix) (rest : List ℕ)
    → (prefix_at bytes ≡ Ok (p, rest)) ↔ ((encoding : List ℕ) × (bytes ≡ encoding ++ rest) × SpellsPrefix encoding p)

-- an encoded count means one required insert count at most, for any total of insertions
abbrev pub CountsHaveOneReading : Type 0
CountsHaveOneReading =
    (total entries insert_count r s : ℕ) → 0 < insert_count → IsRequired total entries insert_count r
    → IsRequired total entries insert_count s
    → r ≡ s

-- the computed required insert count is the one that an encoded count means; if none is computed, the count means none
abbrev pub CountsAreRead : Type 0
CountsAreRead =
    (total entries insert_count r : ℕ) → 0 < insert_count → insert_count ≤ entries + entries
    → IsRequired total entries insert_count r ↔ ((0 < r) × (required_at (total + entries) entries insert_count ≡ r))

-- reading line by line gives the fields, or the first fault, of the lines that the bytes are
abbrev pub ReadingLinesFindsFields : Type 0
ReadingLinesFindsFields =
    (w : Window) (base : ℕ) (bytes : List ℕ) (r : Result (List Field) Fault)
    → (fields_in_bytes w base bytes ≡ r) ↔ ReadsTo w base bytes r

-- what a block requires, and what is kept of it until it is acknowledged, is what its lines reference: its required
-- insert count is the greatest index among them (section 2.1.2). Each index is once in its unacknowledged block; there
-- is no such block if the lines reference nothing (section 2.2.2.1)
abbrev pub BlocksRequireReferences : Type 0
BlocksRequireReferences =
    (t : Table) (stream : ℕ) (fields : List Field)
    → (let d = rule t fields in
    let references = references_of (insert_count t) d.lines in
    (required_insert_count d ≡ greatest_of references) × ((committed_table d stream).unacknowledged
    ≡ with_unacknowledged t.unacknowledged stream (with_numbers [] references)))
