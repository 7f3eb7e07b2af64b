use Rattle.std.proofs.Common.{ap, sym}
use Rattle.qpack_spec.specs.Table.{Table}
use Rattle.qpack_table.proofs.Lookups.{kept_positions}
use Rattle.qpack_table.proofs.dynamic.table.DynamicTable.positions.Goals as goal

pub returns : goal.returns
returns g c =
    kept_positions c.self.inside.vas c.args.self.now c.self.inside.entries.items c.self.invariant.sized.counted
    (ap (λ (t : Table). t.live) (sym c.self.view_is)) (ap (λ (t : Table). t.dropped) (sym c.self.view_is))
