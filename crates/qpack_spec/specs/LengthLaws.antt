-- How long an encoded field section can be: a reader that has a limit on its fields' sizes need not look at a longer
-- one (RFC 9204, sections 3.2.1 and 4.5).
use Rattle.std.specs.Prelude.{◌≡◌, ◌≤◌, ℕ, ◌+◌, ◌*◌, Bool, List, length}
use Rattle.qpack_spec.specs.Field.{Field, total_size}
use Rattle.qpack_spec.specs.Window.{Window}
use Rattle.qpack_spec.specs.Reading.{Fields}
use Rattle.qpack_spec.specs.BlockReading.{reading_of_bytes}
use Rattle.qpack_spec.specs.StatelessMeaning.{MeansStateless}

-- the most bytes of a section whose fields have this sum of sizes: four for each byte of it, since a line has two
-- integers at most, of ten bytes each, and 31 bits for each byte of a name or a value, and a field counts 32 bytes more
-- than these; and twenty for the two integers of the prefix
abbrev pub longest_section : ℕ → ℕ
longest_section size = 4 * size + 20

-- no section that is read under a table is longer
abbrev pub ReadSectionsAreShort : Type 0
ReadSectionsAreShort =
    (w : Window) (bytes : List ℕ) (fields : List Field) (is_dynamic : Bool)
    → reading_of_bytes w bytes ≡ Fields fields is_dynamic → length bytes ≤ longest_section (total_size fields)

-- no section that means its fields alone is longer either
abbrev pub StatelessSectionsAreShort : Type 0
StatelessSectionsAreShort =
    (limit : ℕ) (bytes : List ℕ) (fields : List Field) → MeansStateless limit bytes fields
    → length bytes ≤ longest_section (total_size fields)
