use Rattle.qpack_rules.proofs.MarkedForms.{marked_lines_spelled}
use Rattle.qpack_rules.proofs.StrictWritten.{strict_sections_read, marked_sections_read, marked_sections_blocked}
use Rattle.qpack_rules.proofs.block.strict_sections_are_read.Goals as goal

pub returns-clause-plain : goal.returns-clause-plain
returns-clause-plain c = strict_sections_read

pub returns-clause-spelled : goal.returns-clause-spelled
returns-clause-spelled c = marked_lines_spelled

pub returns-clause-marked : goal.returns-clause-marked
returns-clause-marked c = marked_sections_read

pub returns-clause-blocked : goal.returns-clause-blocked
returns-clause-blocked c = marked_sections_blocked
