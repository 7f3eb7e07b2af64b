use Rattle.std.proofs.Common.{◌≡◌, ℕ, List, [], ◌+◌, ◌∙◌, refl, sym, ap, subst, arith, append-nil, length, map, take}
use Rattle.std.proofs.Math.Seq.{take-length}
use Rattle.std.proofs.lemmas.Result.{err_from_is_err_and}
use Rattle.qpack_base.specs.HeaderFields.{line_of}
use Rattle.qpack_codec.specs.ChosenSections.{AddsAlong}
use Rattle.qpack_codec.proofs.ChosenFields.{along_none, along_next, stops_along_next}
use Rattle.qpack_codec.proofs.WrittenBlocks.{take-append_front}
use Rattle.qpack_codec.proofs.Stills.{still_next, longer_written}
use Rattle.qpack_codec.proofs.InstructionsRoom.{grows_none, grows_next, grows_front}
use Rattle.qpack_base.specs.Codings.{coding_of}
use Rattle.qpack_codec.proofs.encoder.sections.append_fields.Goals as goal

pub loop-field-init : goal.loop-field-init
loop-field-init g c =
    let lines = c.args.lines.now.items in
    record {
      same_table = refl;
      stream = refl;
      base = refl;
      adds = along_none g.C.Chooses.chooses c.args.handle.now.table.now c.args.handle.now.base c.args.chooser.now lines
          c.args.encoder_buf.now.items;
      front = take-append_front lines [] lines lines _ (sym c.args.lines.now.ok.0) refl (sym (append-nil lines));
      capacity = omega arith;
      still = λ fits. refl;
      room = grows_none _ c.args.encoder_buf.now;
    }

pub returns-in_err-append_line-clause-err : goal.returns-in_err-append_line-clause-err
returns-in_err-append_line-clause-err g c =
    let p = err_from_is_err_and c.from_residual.result c.from_residual.ensures.1 in
    rw p.1
    (stops_along_next g.C.Chooses.chooses g.H.AsField.line g.H.AsField.wish c.args.fields.now c.loop-field.field-index
    c.field-item.result (line_of c.as_field.result) c.wish.result c.args.handle.now.table.now c.args.handle.now.base
    c.loop-field.handle.base c.loop-field.handle.table.now c.append_line.new.block.table.now c.args.chooser.now
    c.loop-field.chooser c.args.lines.now.items c.loop-field.lines.items c.args.encoder_buf.now.items
    c.loop-field.encoder_buf.items c.append_line.new.encoder_buf.items (omega arith) c.field-item.is
    c.loop-field.invariant.base c.as_field.ensures c.wish.ensures.same c.loop-field.invariant.adds
    c.in_err-append_line.ensures.err)

pub loop-field-preserved : goal.loop-field-preserved
loop-field-preserved g c =
    let adds = along_next g.C.Chooses.chooses g.H.AsField.line g.H.AsField.wish c.args.fields.now
    c.loop-field.field-index c.field-item.result (line_of c.as_field.result) c.wish.result c.args.handle.now.table.now c.args.handle.now.base c.loop-field.handle.base
    c.loop-field.handle.table.now c.append_line.new.block.table.now c.args.chooser.now c.loop-field.chooser
    c.append_line.new.chooser c.args.lines.now.items c.loop-field.lines.items
    c.append_line.new.lines.items c.args.encoder_buf.now.items c.loop-field.encoder_buf.items
    c.append_line.new.encoder_buf.items (omega arith) c.field-item.is c.loop-field.invariant.base
    c.as_field.ensures c.wish.ensures.same
    c.loop-field.invariant.adds c.in_ok-append_line.ensures.ok in
    record {
      same_table = c.append_line.ensures.same_table ∙ c.loop-field.invariant.same_table;
      stream = c.append_line.ensures.stream ∙ c.loop-field.invariant.stream;
      base = c.append_line.ensures.base ∙ c.loop-field.invariant.base;
      adds = adds;
      front = take-append_front c.args.lines.now.items _ c.append_line.new.lines.items
          c.append_line.new.lines.items _
          (sym c.args.lines.now.ok.0) refl adds.adds.adds.lines;
      capacity = omega (arith, c.append_line.ensures.capacity, c.loop-field.invariant.capacity);
      still = still_next c.args.lines.now c.loop-field.lines c.append_line.new.lines
          (longer_written _ c.loop-field.lines c.append_line.new.lines c.in_ok-append_line.ensures.ok.adds.lines)
          c.loop-field.invariant.still c.in_ok-append_line.ensures.still;
      room = grows_next g.H.AsField.line c.args.fields.now c.loop-field.field-index c.field-item.result
          (line_of c.as_field.result) c.args.encoder_buf.now c.loop-field.encoder_buf
          c.append_line.new.encoder_buf (omega arith) c.field-item.is c.as_field.ensures
          c.loop-field.invariant.room
          c.append_line.ensures.instructions;
    }

pub returns-in_err-append_line-clause-instructions : goal.returns-in_err-append_line-clause-instructions
returns-in_err-append_line-clause-instructions g c =
    grows_front g.H.AsField.line c.args.fields.now (c.loop-field.field-index + 1) c.args.encoder_buf.now
    c.append_line.new.encoder_buf
    (grows_next g.H.AsField.line c.args.fields.now c.loop-field.field-index c.field-item.result
    (line_of c.as_field.result) c.args.encoder_buf.now c.loop-field.encoder_buf
    c.append_line.new.encoder_buf (omega arith) c.field-item.is c.as_field.ensures c.loop-field.invariant.room
    c.append_line.ensures.instructions)

pub returns-clause-ok : goal.returns-clause-ok
returns-clause-ok g c =
    let end : c.loop-field.field-index ≡ length c.args.fields.now =
    omega (arith, c.loop-field-test.false, c.loop-field.auto.field-index-end) in
    let whole : take c.loop-field.field-index c.args.fields.now ≡ c.args.fields.now =
    ap (λ (n : ℕ). take n c.args.fields.now) end ∙ take-length c.args.fields.now in
    subst (λ (xs : List g.row.H.Denot). AddsAlong (coding_of c.args.coding) g.C.Chooses.chooses (map g.H.AsField.line xs)
    (map g.H.AsField.wish xs) c.args.handle.now.table.now c.args.handle.now.base c.loop-field.handle.table.now
    c.args.chooser.now c.loop-field.chooser c.args.lines.now.items c.loop-field.lines.items c.args.encoder_buf.now.items
    c.loop-field.encoder_buf.items) whole c.loop-field.invariant.adds
