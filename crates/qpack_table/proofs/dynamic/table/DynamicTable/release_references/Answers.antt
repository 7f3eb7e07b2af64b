use Rattle.std.proofs.Common.{◌∙◌}
use Rattle.qpack_table.proofs.Kept.{sized_as}
use Rattle.qpack_table.proofs.InProgress.{counted_in_progress, references_given_up, given_up}
use Rattle.qpack_table.proofs.dynamic.table.DynamicTable.release_references.Goals as goal

pub lower_uses-requires : goal.lower_uses-requires
lower_uses-requires g c = counted_in_progress c.self.inside.vas c.self.inside.entries.items _
    c.self.inside.referenced.items
    _ _ _ c.self.invariant.references c.clear_references.ensures.uses c.deref-2.ensures.value
    c.total_dropped-dropped.ensures.exact

pub invariant_of-self : goal.invariant_of-self
invariant_of-self g c = record {
  sized = sized_as c.self.inside.vas c.self.inside.entries.items _ _ _ (c.lower_uses.ensures.live ∙
      c.clear_references.ensures.live)
      c.self.invariant.sized;
  references = rw c.clear.ensures.items (references_given_up c.self.inside.vas c.self.inside.entries.items _ _
      c.self.inside.referenced.items _ _ _ _
      c.self.invariant.references c.total_dropped-dropped.ensures.exact c.deref.ensures.value c.deref-2.ensures.value
      c.clear_references.ensures.uses c.clear_references.ensures.cleared c.lower_uses.ensures.flags
      c.lower_uses.ensures.lowered);
  indexed = g.met.I.EntryIndex.same_fields _ _ c.self.inside.entries.items _
      (c.lower_uses.ensures.live ∙ c.clear_references.ensures.live) c.self.invariant.indexed;
}

pub returns : goal.returns
returns g c = rw (← c.self.view_is) (given_up _ _ _ (c.lower_uses.ensures.live ∙ c.clear_references.ensures.live)
    c.clear.ensures.items)
