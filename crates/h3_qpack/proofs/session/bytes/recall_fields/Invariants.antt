use Rattle.std.proofs.Common.{take}
use Rattle.std.specs.List.{AllByRecursion}
use Rattle.qpack_spec.specs.WrittenLaws.{IsByteField}
use Rattle.qpack_codec.specs.Stateless.{fields_in}
use Rattle.h3_qpack.proofs.session.bytes.recall_fields.Given as goal

abbrev pub invariant-loop-field : goal.invariant-loop-field
invariant-loop-field l = AllByRecursion IsByteField (fields_in (take l.field-index l.fields))
