use Rattle.std.proofs.Common.{◌≡◌, ◌<◌, Bool, subst, arith, length}
use Rattle.qpack_spec.specs.Field.{field_size}
use Rattle.qpack_table.specs.Tables.{IsEvictableAt}
use Rattle.qpack_table.proofs.Evictions.{first_size, evicted_bound}
use Rattle.qpack_table.proofs.Walks.{walk_held, walk_more, walk_fits, walk_all, walk_free}
use Rattle.qpack_table.proofs.dynamic.table.DynamicTable.evictable_count.Goals as goal

pub returns-then-not-is_evictable-clause-held : goal.returns-then-not-is_evictable-clause-held
returns-then-not-is_evictable-clause-held g c =
    walk_held _ _ _ _ c.loop-evicted.evicted c.loop-evicted.invariant c.if-rest-room.true
    (subst (λ (b : Bool). IsEvictableAt c.args.self.now c.loop-evicted.evicted b) c.if-not-is_evictable.true
    c.is_evictable.ensures)

pub overflow_sub-rest : goal.overflow_sub-rest
overflow_sub-rest g c =
    let first = first_size _ _ _ _ c.index.result.now (omega arith) c.index.ensures c.loop-evicted.invariant.gone in
    omega (arith, first)

pub loop-evicted-preserved : goal.loop-evicted-preserved
loop-evicted-preserved g c =
    let within : c.loop-evicted.evicted < length c.self.inside.entries.items = omega arith in
    let first = first_size _ _ _ _ c.index.result.now within c.index.ensures c.loop-evicted.invariant.gone in
    let least = evicted_bound _ _ _ _ _ c.self.invariant.sized.sum c.loop-evicted.invariant.gone in
    let exact : c.mem_size-rest.result ≡ field_size c.index.result.now.field =
    omega (arith, first, least, c.self.invariant.sized.fits, c.self.invariant.sized.small) in
    walk_more _ _ _ _ c.loop-evicted.evicted _ c.index.result.now c.loop-evicted.invariant within c.if-rest-room.true
    (subst (λ (b : Bool). IsEvictableAt c.args.self.now c.loop-evicted.evicted b) c.if-not-is_evictable.false
    c.is_evictable.ensures) c.index.ensures exact

pub returns-else-rest-room-clause-least : goal.returns-else-rest-room-clause-least
returns-else-rest-room-clause-least g c = walk_fits _ _ _ _ _ c.loop-evicted.invariant c.if-rest-room.false

pub returns-else-rest-room-clause-evictable : goal.returns-else-rest-room-clause-evictable
returns-else-rest-room-clause-evictable g c =
    walk_free _ _ _ _ _ c.loop-evicted.invariant (walk_fits _ _ _ _ _ c.loop-evicted.invariant c.if-rest-room.false)

pub returns-after-loop-evicted-clause-least : goal.returns-after-loop-evicted-clause-least
returns-after-loop-evicted-clause-least g c = walk_all _ _ _ _ _ c.loop-evicted.invariant (omega arith)

pub returns-after-loop-evicted-clause-evictable : goal.returns-after-loop-evicted-clause-evictable
returns-after-loop-evicted-clause-evictable g c =
    walk_free _ _ _ _ _ c.loop-evicted.invariant (walk_all _ _ _ _ _ c.loop-evicted.invariant (omega arith))
