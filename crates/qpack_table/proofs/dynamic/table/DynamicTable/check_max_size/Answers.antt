use Rattle.std.proofs.Common.{ℕ, ap, sym, ◌∙◌}
use Rattle.qpack_spec.specs.Table.{can_evict}
use Rattle.qpack_table.proofs.Changes.{is_resized}
use Rattle.qpack_table.proofs.dynamic.table.DynamicTable.check_max_size.Goals as goal

pub returns-clause-ok : goal.returns-clause-ok
returns-clause-ok g c =
    let evicted = c.in_ok-evicted_for_capacity.ensures in
    is_resized c.args.self.now c.args.size evicted.within
    (ap (λ (n : ℕ). can_evict c.args.self.now n) (sym evicted.least) ∙ evicted.evictable)
