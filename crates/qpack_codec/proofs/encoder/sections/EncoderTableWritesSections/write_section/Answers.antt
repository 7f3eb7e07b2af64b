use Rattle.std.proofs.Common.{map}
use Rattle.qpack_codec.proofs.BareTables.{encodes_alone, gives_up_alone}
use Rattle.qpack_codec.specs.declared.encoder.newest_first.NewestFirst.{NewestFirst}
use Rattle.qpack_codec.proofs.NewestChosen.{encodes_newest, gives_up_newest}
use Rattle.qpack_codec.proofs.encoder.sections.EncoderTableWritesSections.write_section.Goals as goal

pub returns-clause-ok : goal.returns-clause-ok
returns-clause-ok g c =
    encodes_newest NewestFirst c.args.stream_id (map g.H.AsField.line c.args.fields.now) (map g.H.AsField.wish c.args.fields.now)
    c.write_along.result c.args.self.now.table _ c.args.block.now.items c.write_along.new.block.items
    c.args.encoder_buf.now.items c.write_along.new.encoder_buf.items c.write_along.ensures.ok

pub returns-clause-err : goal.returns-clause-err
returns-clause-err g c =
    gives_up_newest NewestFirst (map g.H.AsField.line c.args.fields.now) (map g.H.AsField.wish c.args.fields.now)
    c.write_along.result c.args.self.now.table _ c.args.encoder_buf.now.items c.write_along.new.encoder_buf.items
    c.write_along.ensures.err

pub returns-then-max_mem_size-eq0-clause-ok : goal.returns-then-max_mem_size-eq0-clause-ok
returns-then-max_mem_size-eq0-clause-ok g c =
    let size = c.max_mem_size.ensures in
    encodes_alone c.args.stream_id (map g.H.AsField.line c.args.fields.now) c.append_alone.result c.args.self.now.table
    _ c.max_mem_size.result c.args.block.now.items c.append_alone.new.block.items
    c.args.encoder_buf.now.items size.exact c.if-max_mem_size-eq0.true size.fits
    c.give_up.ensures c.append_alone.ensures.ok

pub returns-then-max_mem_size-eq0-clause-err : goal.returns-then-max_mem_size-eq0-clause-err
returns-then-max_mem_size-eq0-clause-err g c =
    gives_up_alone (map g.H.AsField.line c.args.fields.now) c.append_alone.result c.args.self.now.table _
    c.args.encoder_buf.now.items c.give_up.ensures
