use Rattle.qpack_spec.proofs.StaticIndexes.{fields_differ}
use Rattle.qpack_spec.proofs.static_table.static_fields_differ.Goals as goal

pub returns : goal.returns
returns c = fields_differ
