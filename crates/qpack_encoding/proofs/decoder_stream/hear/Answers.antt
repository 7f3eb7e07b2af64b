use Rattle.std.proofs.Common.{refl, arith}
use Rattle.std.proofs.lemmas.Result.{err_from_is_err_and}
use Rattle.qpack_base.proofs.PutCodes.{bytes_from}
use Rattle.qpack_encoding.proofs.HeardStreams.{waits_short}
use Rattle.qpack_encoding.proofs.HeardBytes.{bytes_refused, bytes_truncated, instruction_applied, instruction_refused}
use Rattle.qpack_encoding.proofs.decoder_stream.hear.Goals as goal

pub returns-in_err-apply_strictly-in-Ok-Some-clause-hears : goal.returns-in_err-apply_strictly-in-Ok-Some-clause-hears
returns-in_err-apply_strictly-in-Ok-Some-clause-hears g c =
    let p = err_from_is_err_and c.from_residual.result c.from_residual.ensures.1 in
    rw (p.1, p.2)
    (instruction_refused c.args.table.now c.apply_strictly.new.table c.new-buf.result c.next_line.new.cursor c.args.bytes.now
    c.in-Ok-Some.field-0 c.in-Ok-Some.line c.in_err-apply_strictly-in-Ok-Some.field-0.0 c.new-buf.ensures.rest
    c.in-Ok-Some.field-0-is c.in-Ok-Some.ensures.decodes c.in_err-apply_strictly-in-Ok-Some.ensures)

pub returns-in_ok-apply_strictly-in-Ok-Some-clause-hears : goal.returns-in_ok-apply_strictly-in-Ok-Some-clause-hears
returns-in_ok-apply_strictly-in-Ok-Some-clause-hears g c =
    instruction_applied c.args.table.now c.apply_strictly.new.table c.new-buf.result c.next_line.new.cursor c.args.bytes.now
    c.in-Ok-Some.field-0 c.in-Ok-Some.line c.new-buf.ensures.rest c.in-Ok-Some.field-0-is c.in-Ok-Some.ensures.decodes
    c.in_ok-apply_strictly-in-Ok-Some.ensures

pub returns-in-Ok-None-clause-hears : goal.returns-in-Ok-None-clause-hears
returns-in-Ok-None-clause-hears g c = (
  bytes_truncated c.new-buf.result c.next_line.new.cursor c.args.bytes.now c.in-Ok-None.field-0 c.new-buf.ensures.rest
      c.in-Ok-None.field-0-is c.in-Ok-None.ensures.decodes,
  refl,
)

pub returns-in-Err-clause-hears : goal.returns-in-Err-clause-hears
returns-in-Err-clause-hears g c = (
  bytes_refused c.args.table.now c.new-buf.result c.next_line.new.cursor c.args.bytes.now c.in-Err.field-0
      c.new-buf.ensures.rest c.in-Err.ensures.stays c.in-Err.ensures.decodes c.in-Err.ensures.memory
      c.in-Err.ensures.exact,
  refl,
)

pub returns-in-Ok-None-clause-short : goal.returns-in-Ok-None-clause-short
returns-in-Ok-None-clause-short g c none =
    waits_short c.args.bytes.now (bytes_from c.args.bytes.now (λ i. omega (arith, c.type_inv.bytes i)))
    (bytes_truncated c.new-buf.result c.next_line.new.cursor c.args.bytes.now c.in-Ok-None.field-0
    c.new-buf.ensures.rest c.in-Ok-None.field-0-is c.in-Ok-None.ensures.decodes)
