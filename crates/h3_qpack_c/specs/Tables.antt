-- What a table shows in C.
use Rattle.std.specs.Prelude.{ℕ, Option}
use Rattle.std.specs.Option.{option_map}
use Rattle.qpack_spec.specs.Field.{FieldLine, unmarked}
use Rattle.qpack_spec.specs.Table.{Table, window}
use Rattle.qpack_spec.specs.Window.{relative_entry}

-- the entry at an index, 0 the newest (RFC 9204, section 3.2.5), as a field that may be indexed
abbrev pub entry_at : Table → ℕ → Option FieldLine
entry_at t index = option_map unmarked (relative_entry (window t) index)
