use Rattle.qpack_base.specs.HeaderFields.{line_of}
use Rattle.qpack_codec.proofs.ChosenLines.{adds_only_alone}
use Rattle.qpack_codec.proofs.encoder.chosen_fields.append_uninserted.Goals as goal

pub returns-in_ok-append_alone-in_default-clause-ok : goal.returns-in_ok-append_alone-in_default-clause-ok
returns-in_ok-append_alone-in_default-clause-ok g c =
    adds_only_alone c.args.block.now.table.now c.args.block.now.base (line_of c.args.field.now) c.args.choice
    c.args.lines.now.items c.append_alone.new.lines.items c.requires.no_static c.in_default.not-Equal
    c.in_default.not-Named c.requires.not_inserted c.in_ok-append_alone-in_default.ensures.writes.ok
