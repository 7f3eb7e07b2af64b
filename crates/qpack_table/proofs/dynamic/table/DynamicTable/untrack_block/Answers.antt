use Rattle.std.proofs.Common.{arith}
use Rattle.qpack_spec.specs.Table as table
use Rattle.qpack_spec.specs.Table.{Table}
use Rattle.qpack_table.specs.Tables.{NoneTwice}
use Rattle.qpack_table.proofs.Kept.{kept_released, counted_released}
use Rattle.qpack_table.proofs.Tracking.{taken_parted, every_left_of, left_shorter}
use Rattle.qpack_table.proofs.Released.{unknown_stream, acknowledged}
use Rattle.qpack_table.proofs.dynamic.table.DynamicTable.untrack_block.Goals as goal

pub returns-in_default : goal.returns-in_default
returns-in_default g c = (
  rw (← c.self.view_is) (unknown_stream _ c.args.stream_id c.in_default.ensures.none.0),
  rw c.in_default.ensures.none.1 c.self.view_is,
)

pub lower_uses-requires : goal.lower_uses-requires
lower_uses-requires g c = rw c.total_dropped.ensures.exact (counted_released c.self.inside.vas _ _ _
    c.take_oldest.new.self _ c.self.invariant.references
    (taken_parted c.args.stream_id _ _ _ _ c.in-Some.ensures.taken c.deref.ensures.value))

pub invariant_of-self-2 : goal.invariant_of-self-2
invariant_of-self-2 g c = kept_released c.self.inside.vas _ _ _ _ _ _ _ _ _ c.self.invariant
    c.total_dropped.ensures.exact
    c.lower_uses.ensures.live c.lower_uses.ensures.flags c.lower_uses.ensures.lowered
    (g.met.I.EntryIndex.same_fields _ _ _ _ c.lower_uses.ensures.live c.self.invariant.indexed)
    (taken_parted c.args.stream_id _ _ _ _ c.in-Some.ensures.taken c.deref.ensures.value)
    (every_left_of (λ (b : table.UnacknowledgedBlock). NoneTwice b.entries) c.args.stream_id _ _
    c.in-Some.ensures.taken.left c.self.invariant.references.each_once)
    (omega (arith, left_shorter c.args.stream_id _ _ c.in-Some.ensures.taken.left))

pub returns : goal.returns
returns g c = rw (← c.self.view_is) (acknowledged _ c.args.stream_id _ _ c.in-Some.ensures.taken.left
    c.lower_uses.ensures.live)
