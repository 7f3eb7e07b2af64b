use Rattle.std.proofs.Common.{map}
use Rattle.qpack_spec.specs.Text.{WhereShorter}
use Rattle.qpack_encoding.specs.Wishes.{by_wish}
use Rattle.qpack_encoding.specs.declared.choosing.Chooser.{Chooser}
use Rattle.qpack_encoding.proofs.SentSections.{section_written}
use Rattle.qpack_encoding.proofs.unsent.write_section.Goals as goal

pub returns-clause-ok : goal.returns-clause-ok
returns-clause-ok g c =
    rw (← c.unsent.view_is) (section_written WhereShorter (by_wish Chooser) c.unsent.inside.sent c.args.stream
    (map g.H.AsField.line c.args.fields.now) (map g.H.AsField.wish c.args.fields.now) c.args.table.now.table
    c.write_chosen_section.new.self.table c.args.section.now.items c.write_chosen_section.new.block.items
    c.unsent.inside.bytes.items c.write_chosen_section.new.encoder_buf.items c.write_chosen_section.result
    c.unsent.invariant c.write_chosen_section.ensures.ok)
