use Rattle.qpack_rules.proofs.Marked.{handle_is_marked_rule, is_rule_unmarked, marked_lines_are_of_fields}
use Rattle.qpack_rules.proofs.MarkedChosen.{marked_are_literals}
use Rattle.qpack_rules.proofs.rule.marked_fields_are_literals.Goals as goal

pub returns-clause-literals : goal.returns-clause-literals
returns-clause-literals c = marked_are_literals

pub returns-clause-handle : goal.returns-clause-handle
returns-clause-handle c = handle_is_marked_rule

pub returns-clause-lines : goal.returns-clause-lines
returns-clause-lines c = marked_lines_are_of_fields

pub returns-clause-unmarked : goal.returns-clause-unmarked
returns-clause-unmarked c = is_rule_unmarked
