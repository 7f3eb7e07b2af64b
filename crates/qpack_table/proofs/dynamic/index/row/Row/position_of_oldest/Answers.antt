use Rattle.std.proofs.Common.{◌+◌, refl, arith}
use Rattle.qpack_base.specs.HeaderFields.{line_of}
use Rattle.qpack_table.specs.Rows.{key_of}
use Rattle.qpack_table.proofs.RowSlots.{other_there, none_there}
use Rattle.qpack_table.proofs.dynamic.index.row.Row.position_of_oldest.Goals as goal

pub returns-in_default-clause-none : goal.returns-in_default-clause-none
returns-in_default-clause-none g c =
    none_there _ _ _ _ c.requires.row (c.args.dropped + 1) (key_of c.args.sought.now)
    (line_of c.args.sought.now.line).field refl c.requires.hashed c.requires.field _
    c.in_default.ensures.place

pub returns-else-position-eq0-clause-none : goal.returns-else-position-eq0-clause-none
returns-else-position-eq0-clause-none g c =
    other_there _ _ _ _ c.requires.row (c.args.dropped + 1) (key_of c.args.sought.now)
    (line_of c.args.sought.now.line).field refl c.requires.hashed c.requires.field _ c.index.result.now
    c.in-Ok.ensures.place c.index.ensures (λ e. c.if-position-eq0.false (omega (arith, e, c.position.ensures)))
