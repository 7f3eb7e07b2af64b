use Rattle.std.proofs.Common.{inl, refl, sym, ap, ◌∙◌}
use Rattle.std.proofs.lemmas.Result.{err_from_is_err_and}
use Rattle.qpack_spec.specs.Table.{Table, without_references}
use Rattle.qpack_base.specs.HeaderFields.{line_of}
use Rattle.qpack_codec.proofs.ChosenLines.{new_unmarked, adds_uninserted, line_keeps}
use Rattle.qpack_table.specs.Handles.{naming_of}
use Rattle.qpack_codec.proofs.InstructionsRoom.{grows_none}
use Rattle.qpack_codec.proofs.WrittenBlocks.{take-append_front}
use Rattle.qpack_codec.proofs.encoder.chosen_fields.append_chosen.Goals as goal

pub returns-in-Inserted-clause-ok : goal.returns-in-Inserted-clause-ok
returns-in-Inserted-clause-ok g c =
    new_unmarked (naming_of c.args.naming) c.args.block.now.table.now c.append_insertion_or_alone.new.block.table.now c.args.block.now.base
    (line_of c.args.field.now) c.args.choice c.args.lines.now.items c.append_insertion_or_alone.new.lines.items
    c.args.encoder_buf.now.items c.append_insertion_or_alone.new.encoder_buf.items c.requires.unmarked
    c.in-Inserted.is c.in_ok-append_insertion_or_alone.ensures.ok

pub returns-in_err-append_unreferenced : goal.returns-in_err-append_unreferenced
returns-in_err-append_unreferenced g c =
    let p = err_from_is_err_and c.from_residual-in_err-append_unreferenced.result
    c.from_residual-in_err-append_unreferenced.ensures.1 in
    let line = c.in_ok-append_uninserted.ensures.ok in
    let kept = line_keeps c.args.block.now.table.now c.args.block.now.base (line_of c.args.field.now).field
    c.args.choice c.in_default.not-Inserted in
    rw p.1 (record {
      same_table = c.append_unreferenced.ensures.same_table ∙ c.append_uninserted.ensures.same_table;
      stream = c.append_unreferenced.ensures.stream ∙ c.append_uninserted.ensures.stream;
      base = c.append_unreferenced.ensures.base ∙ c.append_uninserted.ensures.base;
      ok = tt;
      err = inl (
        ap (λ (t : Table). without_references t)
            (c.in_err-append_unreferenced.ensures.same ∙ line.table) ∙ kept,
        c.in_err-append_unreferenced.ensures.as_before,
      );
      as_before = take-append_front c.args.lines.now.items _ c.append_uninserted.new.lines.items
          c.append_uninserted.new.lines.items _ (sym c.args.lines.now.ok.0) refl line.lines;
      capacity = c.append_uninserted.ensures.capacity;
      still = tt;
      instructions = c.append_unreferenced.ensures.instructions;
    })

pub returns : goal.returns
returns g c =
    record {
      same_table = c.append_uninserted.ensures.same_table;
      stream = c.append_uninserted.ensures.stream;
      base = c.append_uninserted.ensures.base;
      ok = adds_uninserted (naming_of c.args.naming) c.args.block.now.table.now c.append_uninserted.new.block.table.now c.args.block.now.base
          (line_of c.args.field.now) c.args.choice c.args.lines.now.items c.append_uninserted.new.lines.items
          c.args.encoder_buf.now.items c.requires.unmarked c.in_default.not-Inserted
          (sym c.inserts_after.ensures ∙ c.if-inserts_after.false) c.in_ok-append_uninserted.ensures.ok;
      err = tt;
      as_before = tt;
      capacity = c.append_uninserted.ensures.capacity;
      still = c.in_ok-append_uninserted.ensures.still;
      instructions = grows_none _ c.args.encoder_buf.now;
    }
