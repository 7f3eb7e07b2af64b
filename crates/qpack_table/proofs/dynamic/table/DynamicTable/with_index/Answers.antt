use Rattle.std.proofs.Common.{List, sym, subst, rules}
use Rattle.qpack_table.specs.Entries.{Entry}
use Rattle.qpack_table.proofs.dynamic.table.DynamicTable.with_index.Goals as goal

pub invariant_of-result : goal.invariant_of-result
invariant_of-result g c = record {
  sized = search rules;
  references = search rules;
  indexed = subst (λ (es : List Entry). g.I.EntryIndex.is_index_of c.args.index c.default.result.dropped es)
      (sym c.new.ensures.items) (c.requires c.default.result.dropped);
}
