use Rattle.qpack_base.specs.HeaderFields.{line_of}
use Rattle.qpack_table.proofs.NewestEntries.{newest_field}
use Rattle.qpack_table.proofs.dynamic.index.Index.newest_hashed.Goals as goal

pub returns-clause-found : goal.returns-clause-found
returns-clause-found g c =
    newest_field c.args.self.now.seed c.args.dropped c.args.entries.now.items (line_of c.args.field.now).field
    c.newest.result c.newest.ensures.found
