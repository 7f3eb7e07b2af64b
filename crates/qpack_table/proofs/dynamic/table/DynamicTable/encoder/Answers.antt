use Rattle.std.proofs.Common.{ap, ◌∙◌}
use Rattle.qpack_spec.specs.Table.{Table, insert_count}
use Rattle.qpack_spec.proofs.WrittenDrafts.{count_unnamed}
use Rattle.qpack_table.proofs.dynamic.table.DynamicTable.encoder.Goals as goal

pub returns-clause-base : goal.returns-clause-base
returns-clause-base g c =
    c.total_inserted-base.ensures ∙ ap (λ (t : Table). insert_count t) c.release_references.ensures ∙ count_unnamed _
