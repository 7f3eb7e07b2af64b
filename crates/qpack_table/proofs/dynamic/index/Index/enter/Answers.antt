use Rattle.std.proofs.Common.{sym, ap, ◌∙◌}
use Rattle.qpack_base.specs.HeaderFields.{line_of}
use Rattle.qpack_spec.specs.Field.{Field}
use Rattle.qpack_table.specs.Hashes.{field_hash, name_hash}
use Rattle.qpack_table.specs.declared.dynamic.comparing.Part.TheVariants.{Name, Whole}
use Rattle.qpack_table.proofs.WholeIndexes.{line_read}
use Rattle.qpack_table.proofs.dynamic.index.Index.enter.Goals as goal

pub enter-requires-clause-field : goal.enter-requires-clause-field
enter-requires-clause-field g c =
    line_read (Whole c.args.self.now.seed) c.args.dropped c.args.entries.now.items c.args.index _
    (line_of c.as_line-line.result) c.requires.live c.index.ensures c.as_line-line.ensures

pub enter-requires-clause-hashed : goal.enter-requires-clause-hashed
enter-requires-clause-hashed g c =
    c.requires.hashes.1
    ∙ ap (λ (f : Field). field_hash c.args.self.now.seed f)
    (sym (line_read (Whole c.args.self.now.seed) c.args.dropped c.args.entries.now.items
    c.args.index _ (line_of c.as_line-line.result) c.requires.live c.index.ensures c.as_line-line.ensures))

pub enter-requires-2-clause-field : goal.enter-requires-2-clause-field
enter-requires-2-clause-field g c =
    line_read (Name c.args.self.now.seed) c.args.dropped c.args.entries.now.items c.args.index _
    (line_of c.as_line-line.result) c.requires.live c.index.ensures c.as_line-line.ensures

pub enter-requires-2-clause-hashed : goal.enter-requires-2-clause-hashed
enter-requires-2-clause-hashed g c =
    c.requires.hashes.0
    ∙ ap (λ (f : Field). name_hash c.args.self.now.seed f.name)
    (sym (line_read (Whole c.args.self.now.seed) c.args.dropped c.args.entries.now.items
    c.args.index _ (line_of c.as_line-line.result) c.requires.live c.index.ensures c.as_line-line.ensures))
