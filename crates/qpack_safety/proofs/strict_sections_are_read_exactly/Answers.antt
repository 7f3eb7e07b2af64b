use Rattle.qpack_safety.proofs.HandedSections.{blocks_handed, sections_strict}
use Rattle.qpack_safety.proofs.strict_sections_are_read_exactly.Goals as goal

pub returns-clause-handed : goal.returns-clause-handed
returns-clause-handed c = blocks_handed

pub returns-clause-read : goal.returns-clause-read
returns-clause-read c = sections_strict
