use Rattle.std.proofs.Common.{ap, ◌∙◌}
use Rattle.qpack_spec.specs.Field.{FieldLine}
use Rattle.qpack_spec.specs.StaticTable.{static_index}
use Rattle.qpack_base.specs.HeaderFields.{field_of}
use Rattle.qpack_base.proofs.FirstIndexes.{field_found, field_missing}
use Rattle.qpack_base.proofs.static_.StaticTable.find.Goals as goal

pub returns-clause-exact : goal.returns-clause-exact
returns-clause-exact c = c.find_line.ensures ∙ ap (λ (l : FieldLine). static_index l.field) c.as_line.ensures

pub returns-clause-found : goal.returns-clause-found
returns-clause-found c = field_found (field_of c.args.field.now) c.find_line.result (returns-clause-exact c)

pub returns-clause-none : goal.returns-clause-none
returns-clause-none c = field_missing (field_of c.args.field.now) c.find_line.result (returns-clause-exact c)
