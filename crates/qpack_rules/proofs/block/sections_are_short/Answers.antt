use Rattle.qpack_rules.proofs.SectionLengths.{read_sections_short, stateless_sections_short}
use Rattle.qpack_rules.proofs.block.sections_are_short.Goals as goal

pub returns-clause-read : goal.returns-clause-read
returns-clause-read c = read_sections_short

pub returns-clause-alone : goal.returns-clause-alone
returns-clause-alone c = stateless_sections_short
