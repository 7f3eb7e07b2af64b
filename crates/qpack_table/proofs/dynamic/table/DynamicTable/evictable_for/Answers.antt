use Rattle.std.proofs.Common.{◌-◌, arith}
use Rattle.qpack_table.proofs.Walks.{least_for, held_for}
use Rattle.qpack_table.proofs.dynamic.table.DynamicTable.evictable_for.Goals as goal

pub returns-clause-least : goal.returns-clause-least
returns-clause-least g c = least_for c.args.self.now (c.max_mem_size.result - c.args.size) c.args.size _ c.requires.fits
    (omega arith) c.evictable_count.ensures.least

pub returns-clause-held : goal.returns-clause-held
returns-clause-held g c = held_for c.args.self.now (c.max_mem_size.result - c.args.size) c.args.size _ c.requires.fits
    (omega arith) c.evictable_count.ensures.held
