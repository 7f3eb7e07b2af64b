use Rattle.qpack_rules.proofs.StrictSections.{strict_sections, nothing_at_0}
use Rattle.qpack_rules.proofs.rule.written_sections_are_strict.Goals as goal

pub returns-clause-sections : goal.returns-clause-sections
returns-clause-sections c = strict_sections

pub returns-clause-insertions : goal.returns-clause-insertions
returns-clause-insertions c = nothing_at_0
