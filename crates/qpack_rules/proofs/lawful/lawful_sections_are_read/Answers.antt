use Rattle.qpack_rules.proofs.LawfulEncoders.{entries_stay, lawful_sections_read}
use Rattle.qpack_rules.proofs.lawful.lawful_sections_are_read.Goals as goal

pub returns-clause-live : goal.returns-clause-live
returns-clause-live c = entries_stay

pub returns-clause-read : goal.returns-clause-read
returns-clause-read c = lawful_sections_read
