-- Field lines that are owned.
use Rattle.std.specs.Prelude.{List, map}
use Rattle.qpack_spec.specs.Field.{FieldLine}
use Rattle.qpack_codec.specs.Choices.{line_as_wished}
use Rattle.qpack_connection.specs.declared.connection.fields.OwnedFieldLine.{OwnedFieldLine}

-- the name, the value and the mark, which the wish may set
abbrev pub line_of : OwnedFieldLine → FieldLine
line_of f =
    line_as_wished
    (record { field = record { name = f.name.items; value = f.value.items }; never_indexed = f.never_indexed }) f.wish

-- those of several
abbrev pub lines_of : List OwnedFieldLine → List FieldLine
lines_of fs = map line_of fs
