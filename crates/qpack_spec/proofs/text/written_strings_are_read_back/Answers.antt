use Rattle.qpack_spec.proofs.WrittenStrings.{written_literal, written_read}
use Rattle.qpack_spec.proofs.text.written_strings_are_read_back.Goals as goal

pub returns-clause-literal : goal.returns-clause-literal
returns-clause-literal c = written_literal

pub returns-clause-back : goal.returns-clause-back
returns-clause-back c = written_read
