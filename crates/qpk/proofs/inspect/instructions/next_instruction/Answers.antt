use Rattle.std.proofs.Common.{ap}
use Rattle.std.proofs.lemmas.Result.{err_from_is_err_and}
use Rattle.qpack_base.specs.Cursor.{CursorView}
use Rattle.qpk.proofs.InspectedInstructions.{read_next}
use Rattle.qpk.proofs.NextInstructions.{line_refused}
use Rattle.qpk.proofs.inspect.instructions.next_instruction.Goals as goal

pub returns-in_err-next_line-clause-reads : goal.returns-in_err-next_line-clause-reads
returns-in_err-next_line-clause-reads c =
    let p = err_from_is_err_and c.from_residual.result c.from_residual.ensures.1 in
    let n = c.in_err-next_line.ensures in
    rw (p.1, p.2) (
      λ t. line_refused t c.args.buf.now c.next_line.new.cursor c.in_err-next_line.field-0.0 n.decodes n.memory n.exact,
      ap (λ (x : CursorView). x.rest) n.stays,
    )

pub returns-clause-reads : goal.returns-clause-reads
returns-clause-reads c =
    read_next c.args.buf.now c.next_line.new.cursor c.in_ok-next_line.field-0 c.in_ok-next_line.ensures.decodes
    c.in_ok-next_line.ensures.stays
