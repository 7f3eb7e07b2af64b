use Rattle.qpk_qif.proofs.FieldLines.{field_parts}
use Rattle.qpk_qif.proofs.lines.split_field.Goals as goal

pub returns : goal.returns
returns c = field_parts c.args.line.now c.split_at_byte.result c.split_at_byte.ensures
