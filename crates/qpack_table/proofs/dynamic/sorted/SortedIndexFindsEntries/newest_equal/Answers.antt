use Rattle.std.proofs.Common.{length, sym, arith}
use Rattle.qpack_base.specs.HeaderFields.{line_of}
use Rattle.qpack_table.proofs.Halvings.{counts_fewer}
use Rattle.qpack_table.proofs.Lookups.{fields_long}
use Rattle.qpack_table.proofs.NewestEntries.{newest_field}
use Rattle.qpack_table.proofs.SortedChanges.{sorted_few}
use Rattle.qpack_table.proofs.SortedNames.{none_of_run}
use Rattle.qpack_table.proofs.SortedNewest.{newest_of_run}
use Rattle.qpack_table.specs.Tables.{live_fields}
use Rattle.qpack_table.specs.declared.dynamic.comparing.Part.TheVariants.{Whole}
use Rattle.qpack_table.proofs.dynamic.sorted.SortedIndexFindsEntries.newest_equal.Goals as goal

pub search-requires : goal.search-requires
search-requires g c = record { sorted = (length c.args.entries.now.items, omega arith, c.requires.index) }

pub returns-in-Ok : goal.returns-in-Ok
returns-in-Ok g c = record {
  found = newest_field 0 c.args.dropped c.args.entries.now.items (line_of c.args.field.now).field _
      (newest_of_run 0 c.args.dropped (live_fields c.args.entries.now.items) (length c.args.entries.now.items)
      c.args.self.now.sorted.items c.requires.index (line_of c.args.field.now).field c.in-Ok.end c.in-Ok.ensures.end.0
      c.in-Ok.ensures.end.1 c.index.result.now c.index.ensures (sym (fields_long c.args.entries.now.items)));
  steps = counts_fewer _ _ _ _ (sorted_few _ _ _ _ c.requires.index) c.search.ensures.steps;
}

pub returns-in-Err : goal.returns-in-Err
returns-in-Err g c = record {
  found = newest_field 0 c.args.dropped c.args.entries.now.items (line_of c.args.field.now).field _
      (none_of_run (Whole 0) c.args.dropped (live_fields c.args.entries.now.items) (length c.args.entries.now.items)
      c.args.self.now.sorted.items c.requires.index (line_of c.args.field.now).field c.in-Err.ensures.end.1
      (sym (fields_long c.args.entries.now.items)));
  steps = counts_fewer _ _ _ _ (sorted_few _ _ _ _ c.requires.index) c.search.ensures.steps;
}
