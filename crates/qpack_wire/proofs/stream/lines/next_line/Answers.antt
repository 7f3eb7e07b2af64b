use Rattle.std.proofs.Common.{Ok, Err, Option, Some, subst}
use Rattle.qpack_base.specs.Cursor.{CursorView}
use Rattle.qpack_wire.specs.StreamAnswers.{DecodesInstruction}
use Rattle.qpack_wire.proofs.stream.lines.next_line.Goals as goal

pub returns-in-Ok-Some-clause-decodes : goal.returns-in-Ok-Some-clause-decodes
returns-in-Ok-Some-clause-decodes g c =
    subst (λ (o : CursorView). DecodesInstruction g.W.Wire.line_of g.W.Wire.spells g.W.Wire.refuses o c.decode.new.buf
    (Ok (Some c.in-Ok-Some.line))) c.fork-ahead.ensures
    (subst (λ (x : Option g.row.W.Denot). DecodesInstruction g.W.Wire.line_of g.W.Wire.spells g.W.Wire.refuses
    c.fork-ahead.result c.decode.new.buf (Ok x)) c.in-Ok-Some.field-0-is c.in-Ok-Some.ensures.decodes)

pub returns-in-Err-clause-decodes : goal.returns-in-Err-clause-decodes
returns-in-Err-clause-decodes g c =
    let d = subst (λ (o : CursorView). DecodesInstruction {V = g.row.W.Denot} g.W.Wire.line_of g.W.Wire.spells
    g.W.Wire.refuses o c.decode.new.buf (Err c.in-Err.e)) c.fork-ahead.ensures c.in-Err.ensures.decodes in
    record { found = d.found; only = d.only; refused = d.refused; truncated = d.truncated }
