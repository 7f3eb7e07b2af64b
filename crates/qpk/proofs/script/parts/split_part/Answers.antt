use Rattle.qpk.proofs.Parts.{whole_part, first_part}
use Rattle.qpk.proofs.script.parts.split_part.Goals as goal

pub returns-in-Some : goal.returns-in-Some
returns-in-Some c = first_part c.args.text.now _ c.in-Some.ensures

pub returns-in-None : goal.returns-in-None
returns-in-None c = whole_part c.args.text.now c.in-None.ensures
