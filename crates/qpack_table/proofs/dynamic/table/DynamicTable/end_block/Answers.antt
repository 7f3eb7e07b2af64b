use Rattle.std.proofs.Common.{refl}
use Rattle.std.specs.Prelude.{nat_lt}
use Rattle.qpack_table.proofs.Kept.{sized_as}
use Rattle.qpack_table.proofs.InProgress.{references_opened, committed}
use Rattle.qpack_table.proofs.dynamic.table.DynamicTable.end_block.Goals as goal

pub invariant_of-self-in-Ok : goal.invariant_of-self-in-Ok
invariant_of-self-in-Ok g c = record {
  sized = sized_as c.self.inside.vas c.self.inside.entries.items _ _ _ c.in-Ok.ensures.live
      c.self.invariant.sized;
  references = references_opened c.self.inside.vas c.self.inside.entries.items _ c.self.inside.referenced.items _ _ _
      c.args.stream_id _ c.self.invariant.references c.total_dropped-dropped.ensures.exact
      c.in-Ok.ensures.uses c.in-Ok.ensures.cleared c.in-Ok.ensures.none c.in-Ok.ensures.opened c.in-Ok.ensures.few;
  indexed = g.met.I.EntryIndex.same_fields _ _ c.self.inside.entries.items _ c.in-Ok.ensures.live
      c.self.invariant.indexed;
}

pub returns-in-Ok-clause-ok : goal.returns-in-Ok-clause-ok
returns-in-Ok-clause-ok g c = rw (← c.self.view_is) (committed _ c.args.stream_id c.args.required _ _ _ _
    (nat_lt c.self.inside.known_received_count c.args.required)
    c.in-Ok.ensures.live c.in-Ok.ensures.none c.in-Ok.ensures.opened refl c.in_ok-push_if.ensures.counts)
