use Rattle.std.proofs.Common.{refl}
use Rattle.std.proofs.lemmas.Result.{err_from_is_err_and}
use Rattle.qpack_wire.specs.StreamLines.{decoder_instruction_of}
use Rattle.qpack_codec.proofs.Hearing.{line_refused, no_line, unread, found_line, stops_at_table}
use Rattle.qpack_codec.proofs.encoder.take_instruction.Goals as goal

pub returns-in_err-line-clause-hears : goal.returns-in_err-line-clause-hears
returns-in_err-line-clause-hears c =
    let p = err_from_is_err_and c.from_residual.result c.from_residual.ensures.1 in
    rw (p.1, p.2) (
      line_refused c.args.table.now c.args.buf.now c.next_line.new.cursor c.in_err-line.field-0.0
          c.in_err-line.ensures.stays c.in_err-line.ensures.decodes c.in_err-line.ensures.memory
          c.in_err-line.ensures.exact,
      refl,
    )

pub returns-in_default-clause-hears : goal.returns-in_default-clause-hears
returns-in_default-clause-hears c = (
  no_line c.args.buf.now c.next_line.new.cursor c.in_ok-line.field-0 c.in_default.is c.in_ok-line.ensures.decodes,
  unread c.args.buf.now c.next_line.new.cursor c.in_ok-line.field-0 c.in_default.is c.in_ok-line.ensures.stays,
  refl,
)

pub returns-in_err-apply_decoder_line-clause-hears : goal.returns-in_err-apply_decoder_line-clause-hears
returns-in_err-apply_decoder_line-clause-hears c =
    let p = err_from_is_err_and c.from_residual-in_err-apply_decoder_line.result c.from_residual-in_err-apply_decoder_line.ensures.1 in
    let at = found_line c.args.buf.now c.next_line.new.cursor c.in_ok-line.field-0 c.in-Some.line c.in-Some.is
    c.in_ok-line.ensures.decodes in
    rw (p.1, p.2)
    (stops_at_table c.args.table.now c.apply_decoder_line.new.table c.args.buf.now.rest c.next_line.new.cursor.rest
    (decoder_instruction_of c.in-Some.line) c.in_err-apply_decoder_line.field-0.0 at c.in_err-apply_decoder_line.ensures)
