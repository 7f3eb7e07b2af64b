use Rattle.std.proofs.Common.{subst}
use Rattle.qpack_spec.specs.Field.{FieldLine}
use Rattle.qpack_table.specs.Indexes.{FindsNewest}
use Rattle.qpack_table.specs.Rows.{part_of}
use Rattle.qpack_table.specs.Tables.{live_fields}
use Rattle.qpack_table.specs.declared.dynamic.comparing.Part.TheVariants.{Name}
use Rattle.qpack_table.proofs.NewestEntries.{newest_name}
use Rattle.qpack_table.proofs.dynamic.index.Index.newest_hashed_name.Goals as goal

pub returns-clause-found : goal.returns-clause-found
returns-clause-found g c =
    newest_name c.args.self.now.seed c.args.dropped c.args.entries.now.items c.args.name.now c.newest.result
    (subst (λ (l : FieldLine). FindsNewest (Name c.args.self.now.seed) c.args.dropped
    (live_fields c.args.entries.now.items) (part_of (Name c.args.self.now.seed) l.field)
    c.newest.result) c.new.ensures c.newest.ensures.found)
