use Rattle.qpack_rules.proofs.ChosenLines.{chosen_have_lines}
use Rattle.qpack_rules.proofs.ChosenWritten.{nothing_chosen_at_0}
use Rattle.qpack_rules.proofs.MarkedChosen.{marked_is_chosen}
use Rattle.qpack_rules.proofs.rule.chosen_fields_have_lines.Goals as goal

pub returns-clause-lines : goal.returns-clause-lines
returns-clause-lines c = chosen_have_lines

pub returns-clause-insertions : goal.returns-clause-insertions
returns-clause-insertions c = nothing_chosen_at_0

pub returns-clause-rule : goal.returns-clause-rule
returns-clause-rule c = marked_is_chosen
