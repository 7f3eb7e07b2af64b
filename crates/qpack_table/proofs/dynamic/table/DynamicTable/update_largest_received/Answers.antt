use Rattle.qpack_table.proofs.Released.{received}
use Rattle.qpack_table.proofs.dynamic.table.DynamicTable.update_largest_received.Goals as goal

pub returns : goal.returns
returns g c = rw (← c.self.view_is) (received _ c.args.increment _ _ c.saturating_add-self-inside.ensures
    c.release_up_to.ensures)
