use Rattle.std.proofs.Common.{◌++◌, ap, sym, ◌∙◌, arith, map, take}
use Rattle.std.proofs.lemmas.Result.{err_from_is_err_and}
use Rattle.qpack_spec.specs.Prefix.{Prefix, written_prefix}
use Rattle.qpack_base.specs.HeaderFields.{line_of}
use Rattle.qpack_codec.proofs.MarkedFields.{written_stateless, stateless_begun, stateless_grown, prefix_fits, line_fits}
use Rattle.qpack_codec.proofs.WrittenBlocks.{take-append_front}
use Rattle.qpack_codec.proofs.Rooms.{no_err}
use Rattle.qpack_codec.proofs.Stills.{still_written, still_next, longer_written}
use Rattle.qpack_base.specs.Codings.{coding_of}
use Rattle.qpack_codec.proofs.stateless.field_lines.append_section.Goals as goal

pub loop-field-init : goal.loop-field-init
loop-field-init g c = record {
  written = stateless_begun (coding_of c.args.coding) c.args.block.now.items c.encode.new.buf.items
      (c.in_ok-encode.ensures.writes.ok
      ∙ ap (λ (p : Prefix). c.args.block.now.items ++ written_prefix p) c.new.ensures);
  capacity = c.encode.ensures.writes.capacity;
  still = still_written _ c.args.block.now c.encode.new.buf c.in_ok-encode.ensures.writes.ok
      c.encode.ensures.writes.still;
}

pub returns-in_err-append_line-clause-err : goal.returns-in_err-append_line-clause-err
returns-in_err-append_line-clause-err g c =
    let p = err_from_is_err_and c.from_residual-in_err-append_line.result c.from_residual-in_err-append_line.ensures.1
    in
    rw p.1
    (take-append_front c.args.block.now.items
    (written_stateless (coding_of c.args.coding) (map g.H.AsField.line (take c.loop-field.field-index c.args.fields.now)))
    c.loop-field.block.items c.append_line.new.block.items _ (sym c.args.block.now.ok.0)
    c.in_err-append_line.ensures.writes.err c.loop-field.invariant.written)

pub returns-in_err-encode-clause-succeeds : goal.returns-in_err-encode-clause-succeeds
returns-in_err-encode-clause-succeeds g c fits =
    absurd (no_err c.encode.result c.in_err-encode.field-0.0 (c.encode.ensures.writes.succeeds
    (prefix_fits (coding_of c.args.coding) g.H.AsField.line c.args.fields.now c.args.block.now c.new.ensures fits)) c.in_err-encode.was)

pub returns-in_err-append_line-clause-succeeds : goal.returns-in_err-append_line-clause-succeeds
returns-in_err-append_line-clause-succeeds g c fits =
    absurd (no_err c.append_line.result c.in_err-append_line.field-0.0 (c.append_line.ensures.writes.succeeds
    (line_fits (coding_of c.args.coding) g.H.AsField.line c.args.fields.now c.loop-field.field-index c.field-item.result
    (line_of c.as_field.result) c.args.block.now c.loop-field.block (omega arith) c.field-item.is c.as_field.ensures
    c.loop-field.invariant.written c.loop-field.invariant.still fits)) c.in_err-append_line.was)

pub loop-field-preserved : goal.loop-field-preserved
loop-field-preserved g c = record {
  written = stateless_grown (coding_of c.args.coding) g.H.AsField.line c.args.fields.now c.loop-field.field-index c.field-item.result
      (line_of c.as_field.result) c.args.block.now.items c.loop-field.block.items c.append_line.new.block.items
      (omega arith) c.field-item.is c.as_field.ensures c.loop-field.invariant.written
      c.in_ok-append_line.ensures.writes.ok;
  capacity = omega (arith, c.loop-field.invariant.capacity, c.append_line.ensures.writes.capacity);
  still = still_next c.args.block.now c.loop-field.block c.append_line.new.block
      (longer_written _ c.loop-field.block c.append_line.new.block c.in_ok-append_line.ensures.writes.ok)
      c.loop-field.invariant.still
      (still_written _ c.loop-field.block c.append_line.new.block c.in_ok-append_line.ensures.writes.ok
      c.append_line.ensures.writes.still);
}
