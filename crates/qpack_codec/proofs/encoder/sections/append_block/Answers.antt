use Rattle.std.proofs.Common.{◌∙◌, arith, map}
use Rattle.std.proofs.lemmas.Result.{err_from_is_err_and}
use Rattle.qpack_codec.proofs.ChosenBlocks.{drafts_along, each_wish, gives_up_along, gives_up_all_along}
use Rattle.qpack_codec.proofs.ChosenRoom.{room_chosen}
use Rattle.qpack_codec.proofs.Stills.{still_next}
use Rattle.qpack_codec.proofs.encoder.sections.append_block.Goals as goal

pub returns-in_err-append_fields-clause-err : goal.returns-in_err-append_fields-clause-err
returns-in_err-append_fields-clause-err g c =
    let p = err_from_is_err_and c.from_residual.result c.from_residual.ensures.1 in
    rw p.1
    (gives_up_along g.C.Chooses.chooses (map g.H.AsField.wish c.args.fields.now) c.begin.new.self
    c.args.handle.now.table.now c.args.handle.now.base (map g.H.AsField.line c.args.fields.now)
    c.append_fields.new.handle.table.now c.args.encoder_buf.now.items c.append_fields.new.encoder_buf.items
    c.requires.begins c.requires.base c.in_err-append_fields.ensures.err)

pub new-prefix-requires-clause-room : goal.new-prefix-requires-clause-room
new-prefix-requires-clause-room g c _ some =
    room_chosen c.agreed_max-max.result c.args.handle.now.base c.args.handle.now.table.now
    (map g.H.AsField.line c.args.fields.now) c.in_ok-append_fields.ensures.ok.adds.choices
    c.append_fields.new.handle.table.now c.requires.begins c.agreed_max-max.ensures.most
    c.agreed_max-max.ensures.fits c.in_ok-append_fields.ensures.ok.adds.adds.table
    (omega (arith, some, c.required_insert_count-required.ensures.exact))

pub returns-in_err-put_in_front-clause-err : goal.returns-in_err-put_in_front-clause-err
returns-in_err-put_in_front-clause-err g c =
    let p = err_from_is_err_and c.from_residual-in_err-put_in_front.result
    c.from_residual-in_err-put_in_front.ensures.1 in
    rw p.1
    (gives_up_all_along g.C.Chooses.chooses (map g.H.AsField.wish c.args.fields.now) c.begin.new.self
    c.append_fields.new.chooser c.args.handle.now.table.now c.args.handle.now.base
    (map g.H.AsField.line c.args.fields.now) c.append_fields.new.handle.table.now c.args.block.now.items
    c.append_fields.new.lines.items c.args.encoder_buf.now.items c.append_fields.new.encoder_buf.items
    (each_wish g.H.AsField.line g.H.AsField.wish c.args.fields.now) c.requires.begins c.requires.base
    c.in_ok-append_fields.ensures.ok)

pub returns-clause-ok : goal.returns-clause-ok
returns-clause-ok g c =
    drafts_along g.C.Chooses.chooses (map g.H.AsField.wish c.args.fields.now) c.begin.new.self
    c.append_fields.new.chooser c.args.handle.now.table.now c.args.handle.now.base (map g.H.AsField.line c.args.fields.now)
    c.append_fields.new.handle.table.now c.args.block.now.items c.append_fields.new.lines.items
    c.put_in_front.new.block.items c.args.encoder_buf.now.items c.append_fields.new.encoder_buf.items
    c.len-len.result c.required_insert_count-required.result c.agreed_max-max.result c.base.result _
    c.requires.begins c.requires.base c.in_ok-append_fields.ensures.ok
    (omega (arith, c.len-len.ensures, c.args.block.now.ok.0)) c.required_insert_count-required.ensures.exact
    c.agreed_max-max.ensures.exact (c.base.ensures ∙ c.append_fields.ensures.base) c.new-prefix.ensures
    c.in_ok-put_in_front.ensures.ok

pub returns-clause-still : goal.returns-clause-still
returns-clause-still g c =
    still_next c.args.block.now c.append_fields.new.lines c.put_in_front.new.block c.put_in_front.ensures.longer
    c.in_ok-append_fields.ensures.still c.in_ok-put_in_front.ensures.still
