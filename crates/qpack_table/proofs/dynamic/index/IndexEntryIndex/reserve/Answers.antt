use Rattle.std.proofs.Common.{arith}
use Rattle.qpack_table.proofs.Lookups.{fields_long}
use Rattle.qpack_table.proofs.NewestEntries.{row_few}
use Rattle.qpack_table.proofs.dynamic.index.IndexEntryIndex.reserve.Goals as goal

pub returns-clause-spare : goal.returns-clause-spare
returns-clause-spare g c = λ most few spare.
    let long = fields_long c.args._entries.now.items in record {
      fields = omega (
        arith,
        c.reserve.ensures.fields,
        spare.fields,
        row_few _ _ _ _ c.requires.index.fields.is_row,
        long,
        few,
      );
      names = omega (
        arith,
        c.reserve.ensures.names,
        spare.names,
        row_few _ _ _ _ c.requires.index.names.is_row,
        long,
        few,
      );
    }
