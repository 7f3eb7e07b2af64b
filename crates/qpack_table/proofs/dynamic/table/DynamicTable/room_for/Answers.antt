use Rattle.std.proofs.Common.{arith}
use Rattle.qpack_base.specs.HeaderFields.{line_of}
use Rattle.qpack_table.proofs.Sent.{room_too_large, room_too_late, room_by_walk, no_room_by_walk, least_by_walk}
use Rattle.qpack_table.proofs.dynamic.table.DynamicTable.room_for.Goals as goal

pub returns-then-size-max_mem_size-clause-none : goal.returns-then-size-max_mem_size-clause-none
returns-then-size-max_mem_size-clause-none g c = room_too_large _ _ (omega arith)

pub returns-then-total_inserted-ge-MOST_INSERTIONS-clause-none
    : goal.returns-then-total_inserted-ge-MOST_INSERTIONS-clause-none
returns-then-total_inserted-ge-MOST_INSERTIONS-clause-none g c = room_too_late _ _ (omega arith) (omega arith)

pub returns-clause-room : goal.returns-clause-room
returns-clause-room g c = room_by_walk c.args.self.now (line_of c.args.field.now).field c.mem_size-size.result _
    (omega arith) (omega arith) (omega arith) c.evictable_for.ensures.least c.evictable_for.ensures.evictable

pub returns-clause-evicted : goal.returns-clause-evicted
returns-clause-evicted g c = least_by_walk c.args.self.now (line_of c.args.field.now).field c.mem_size-size.result _
    (omega arith) c.evictable_for.ensures.least

pub returns-clause-none : goal.returns-clause-none
returns-clause-none g c = no_room_by_walk c.args.self.now (line_of c.args.field.now).field c.mem_size-size.result _
    (omega arith) (omega arith) (omega arith) c.evictable_for.ensures.held
