use Rattle.std.proofs.Common.{refl}
use Rattle.qpk_qif.proofs.FieldLines.{first_line}
use Rattle.qpk_qif.proofs.lines.split_line.Goals as goal

pub returns-clause-lines : goal.returns-clause-lines
returns-clause-lines c = first_line c.args.text.now c.split_at_byte.result _ c.unwrap_or.result c.requires
    c.split_at_byte.ensures refl refl c.unwrap_or.ensures
