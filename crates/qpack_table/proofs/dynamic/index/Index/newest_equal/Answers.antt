use Rattle.std.proofs.Common.{◌≡◌, length, rules, arith}
use Rattle.std.specs.Prelude.{None}
use Rattle.qpack_base.specs.HeaderFields.{line_of}
use Rattle.qpack_table.specs.Tables.{live_fields}
use Rattle.qpack_table.specs.declared.dynamic.comparing.Part.TheVariants.{Whole}
use Rattle.qpack_table.proofs.Lookups.{fields_long}
use Rattle.qpack_table.proofs.NewestEntries.{newest_field, newest_of_none}
use Rattle.qpack_table.proofs.dynamic.index.Index.newest_equal.Goals as goal

pub returns-then-is_empty-clause-found : goal.returns-then-is_empty-clause-found
returns-then-is_empty-clause-found g c =
    let len : 0 ≡ length c.args.entries.now.items = search rules in
    newest_field c.args.self.now.seed c.args.dropped c.args.entries.now.items (line_of c.args.field.now).field None
    (newest_of_none (Whole c.args.self.now.seed) c.args.dropped (live_fields c.args.entries.now.items)
    (line_of c.args.field.now).field (λ some. omega (arith, len, some, fields_long c.args.entries.now.items)))
