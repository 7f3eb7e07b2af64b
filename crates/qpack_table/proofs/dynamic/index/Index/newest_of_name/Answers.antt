use Rattle.std.proofs.Common.{◌≡◌, [], length, rules, arith}
use Rattle.std.specs.Prelude.{None}
use Rattle.qpack_table.specs.Tables.{live_fields}
use Rattle.qpack_table.specs.declared.dynamic.comparing.Part.TheVariants.{Name}
use Rattle.qpack_table.proofs.Lookups.{fields_long}
use Rattle.qpack_table.proofs.NewestEntries.{newest_name, newest_of_none}
use Rattle.qpack_table.proofs.dynamic.index.Index.newest_of_name.Goals as goal

pub returns-then-is_empty-clause-found : goal.returns-then-is_empty-clause-found
returns-then-is_empty-clause-found g c =
    let len : 0 ≡ length c.args.entries.now.items = search rules in
    newest_name c.args.self.now.seed c.args.dropped c.args.entries.now.items c.args.name.now None
    (newest_of_none (Name c.args.self.now.seed) c.args.dropped (live_fields c.args.entries.now.items)
    (record { name = c.args.name.now; value = [] })
    (λ some. omega (arith, len, some, fields_long c.args.entries.now.items)))
