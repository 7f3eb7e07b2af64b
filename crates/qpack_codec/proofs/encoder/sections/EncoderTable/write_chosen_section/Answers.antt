use Rattle.std.proofs.Common.{◌∙◌, map, sym}
use Rattle.qpack_codec.proofs.ChosenBlocks.{encodes_along, encodes_chosen_alone, encodes_along_alone, given_up_of}
use Rattle.qpack_codec.proofs.ChosenBlocks.{gives_up_chosen_alone}
use Rattle.qpack_base.specs.Codings.{coding_of}
use Rattle.qpack_codec.proofs.encoder.sections.EncoderTable.write_chosen_section.Goals as goal

pub returns-then-max_mem_size-eq0-clause-ok : goal.returns-then-max_mem_size-eq0-clause-ok
returns-then-max_mem_size-eq0-clause-ok g c =
    encodes_along_alone (coding_of c.args.coding) g.C.Chooses.chooses (map g.H.AsField.wish c.args.fields.now) c.args.stream_id
    (map g.H.AsField.line c.args.fields.now) c.append_alone.result c.args.self.now.table _ c.args.block.now.items
    c.append_alone.new.block.items c.args.encoder_buf.now.items (sym c.max_mem_size.ensures.exact ∙ c.if-max_mem_size-eq0.true)
    (encodes_chosen_alone (coding_of c.args.coding) c.args.stream_id (map g.H.AsField.line c.args.fields.now) c.append_alone.result
    c.args.self.now.table _ c.args.block.now.items c.append_alone.new.block.items c.args.encoder_buf.now.items
    c.give_up.ensures c.append_alone.ensures.ok)

pub returns-then-max_mem_size-eq0-clause-err : goal.returns-then-max_mem_size-eq0-clause-err
returns-then-max_mem_size-eq0-clause-err g c =
    gives_up_chosen_alone (coding_of c.args.coding) (map g.H.AsField.line c.args.fields.now) c.append_alone.result c.args.self.now.table _
    c.args.encoder_buf.now.items c.give_up.ensures

pub returns-clause-ok : goal.returns-clause-ok
returns-clause-ok g c =
    encodes_along (coding_of c.args.coding) g.C.Chooses.chooses (map g.H.AsField.wish c.args.fields.now) c.args.stream_id
    (map g.H.AsField.line c.args.fields.now) c.write_along.result c.args.self.now.table _ c.args.block.now.items
    c.write_along.new.block.items c.args.encoder_buf.now.items c.write_along.new.encoder_buf.items
    c.write_along.ensures.ok

pub returns-clause-err : goal.returns-clause-err
returns-clause-err g c =
    given_up_of (coding_of c.args.coding) g.C.Chooses.chooses (map g.H.AsField.wish c.args.fields.now) (map g.H.AsField.line c.args.fields.now)
    c.write_along.result c.args.self.now.table _ c.args.encoder_buf.now.items c.write_along.new.encoder_buf.items
    c.write_along.ensures.err
