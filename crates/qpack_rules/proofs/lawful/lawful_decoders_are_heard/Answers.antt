use Rattle.qpack_rules.proofs.ChosenGoesOn.{go_on_chosen}
use Rattle.qpack_rules.proofs.LawfulDecoders.{instructions_heard, more_sections, go_on}
use Rattle.qpack_rules.proofs.lawful.lawful_decoders_are_heard.Goals as goal

pub returns-clause-heard : goal.returns-clause-heard
returns-clause-heard c = instructions_heard

pub returns-clause-later : goal.returns-clause-later
returns-clause-later c = more_sections

pub returns-clause-inserted : goal.returns-clause-inserted
returns-clause-inserted c = go_on

pub returns-clause-chosen : goal.returns-clause-chosen
returns-clause-chosen c = go_on_chosen
