use Rattle.std.proofs.Common.{take}
use Rattle.std.specs.List.{AllByRecursion}
use Rattle.qpack_spec.specs.Field.{fields_of_lines}
use Rattle.qpack_spec.specs.WrittenLaws.{IsByteField}
use Rattle.qpack_connection.specs.OwnedLines.{lines_of}
use Rattle.qpack_connection.proofs.connection.fields.recall_fields.Given as goal

abbrev pub invariant-loop-field : goal.invariant-loop-field
invariant-loop-field l = AllByRecursion IsByteField (fields_of_lines (lines_of (take l.field-index l.fields)))
