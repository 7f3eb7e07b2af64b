use Rattle.std.proofs.Common.{sym, ◌∙◌}
use Rattle.qpack_base.specs.HeaderFields.{line_of}
use Rattle.qpack_codec.proofs.ChosenLines.{newest_passes}
use Rattle.qpack_codec.proofs.encoder.chosen_fields.is_equal.Goals as goal

pub returns-then-eq : goal.returns-then-eq
returns-then-eq g c =
    c.if-eq.true
    ∙ sym (newest_passes c.args.block.now.table.now (line_of c.args.field.now).field c.newest.result c.args.entry
    (c.newest.ensures ∙ c.requires.newest) (sym c.eq.ensures ∙ c.if-eq.true))
