use Rattle.std.proofs.Common.{refl, rules, string_bytes}
use Rattle.qpk.specs.Commands.{OtherWords}
use Rattle.qpk.proofs.Words.{not_only_two}
use Rattle.qpk.proofs.command.words.only_numbers.Goals as goal

pub returns-in_default : goal.returns-in_default
returns-in_default c = (OtherWords, not_only_two string_bytes c.args.words.now (search rules), refl)
