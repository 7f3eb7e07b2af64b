use Rattle.std.proofs.Common.{refl}
use Rattle.qpack_wire.specs.BlockLines.{line_of}
use Rattle.qpk_show.specs.Answers.{under}
use Rattle.qpk_show.specs.Sections.{PastRequired, reference_of}
use Rattle.qpk_show.proofs.Faults.{line_meaningless, not_past, past}
use Rattle.qpk_show.proofs.section.Under.field_of.Goals as goal

pub returns-then-is_past : goal.returns-then-is_past
returns-then-is_past c =
    let index = reference_of c.args.self.now.base (line_of c.args.line.now) in (
      PastRequired index,
      (index, c.reference_of-index.ensures, refl),
      past (under c.args.self.now) (line_of c.args.line.now) (c.is_past.ensures.0 c.if-is_past.true),
    )

pub returns-in-Err : goal.returns-in-Err
returns-in-Err c =
    let not = not_past (under c.args.self.now) (line_of c.args.line.now)
    (λ h. let t = c.is_past.ensures.1 h in let f = c.if-is_past.false in absurd cc) in
    let fails = rw (c.decoder.ensures.table, c.decoder.ensures.base) at c.in-Err.ensures in
    rw (c.meaningless.ensures, not) (line_meaningless c.in-Err.e _ fails)
