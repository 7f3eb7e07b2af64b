use Rattle.std.proofs.Common.{◌∙◌, map}
use Rattle.qpack_codec.proofs.ChosenBlocks.{each_wish, gives_up_section, writes_along}
use Rattle.qpack_codec.proofs.DraftedBlocks.{count_begins, none_begins}
use Rattle.qpack_base.specs.Codings.{coding_of}
use Rattle.qpack_codec.proofs.encoder.sections.EncoderTable.write_along.Goals as goal

pub append_block-appended-requires-clause-base : goal.append_block-appended-requires-clause-base
append_block-appended-requires-clause-base g c =
    c.encoder-handle.ensures.base ∙ count_begins _ c.encoder-handle.result.table.now c.encoder-handle.ensures.table

pub append_block-appended-requires-clause-begins : goal.append_block-appended-requires-clause-begins
append_block-appended-requires-clause-begins g c =
    none_begins _ c.encoder-handle.result.table.now c.encoder-handle.ensures.table

pub returns-then-is_err-clause-err : goal.returns-then-is_err-clause-err
returns-then-is_err-clause-err g c =
    gives_up_section (coding_of c.args.coding) g.C.Chooses.chooses (map g.H.AsField.wish c.args.fields.now)
    (map g.H.AsField.line c.args.fields.now) c.append_block-appended.result c.end_block-answer.result
    c.args.self.now.table c.encoder-handle.result.table.now c.append_block-appended.new.handle.table.now _
    c.args.block.now.items c.append_block-appended.new.block.items c.args.encoder_buf.now.items
    c.append_block-appended.new.encoder_buf.items (each_wish g.H.AsField.line g.H.AsField.wish c.args.fields.now)
    c.encoder-handle.ensures.table c.append_block-appended.ensures.ok c.append_block-appended.ensures.err
    c.end_block-answer.ensures.err

pub returns-else-is_err-clause-ok : goal.returns-else-is_err-clause-ok
returns-else-is_err-clause-ok g c =
    writes_along (coding_of c.args.coding) g.C.Chooses.chooses (map g.H.AsField.wish c.args.fields.now)
    (map g.H.AsField.line c.args.fields.now) c.append_block-appended.result c.end_block-answer.result
    c.args.self.now.table c.encoder-handle.result.table.now c.append_block-appended.new.handle.table.now _
    c.args.stream_id c.append_block-appended.new.handle.stream_id c.args.block.now.items
    c.append_block-appended.new.block.items c.args.encoder_buf.now.items c.append_block-appended.new.encoder_buf.items
    c.encoder-handle.ensures.table (c.append_block-appended.ensures.stream ∙ c.encoder-handle.ensures.stream)
    c.append_block-appended.ensures.ok c.end_block-answer.ensures.ok
