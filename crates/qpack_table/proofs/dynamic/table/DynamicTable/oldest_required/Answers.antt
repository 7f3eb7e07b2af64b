use Rattle.std.proofs.Common.{ap, ◌∙◌}
use Rattle.qpack_spec.specs.Table.{Table}
use Rattle.qpack_table.specs.Tables.{oldest_required}
use Rattle.qpack_table.proofs.Tracking.{required_of}
use Rattle.qpack_table.proofs.dynamic.table.DynamicTable.oldest_required.Goals as goal

pub returns : goal.returns
returns g c = required_of _ _ _ c.in_ok-oldest.ensures c.greatest_in.ensures
    ∙ ap (λ (t : Table). oldest_required c.args.stream_id t.unacknowledged) c.self.view_is
