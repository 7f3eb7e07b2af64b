use Rattle.qpk.proofs.Tellings.{told_front}
use Rattle.qpk.proofs.serve.refuse.Goals as goal

pub returns-clause-told : goal.returns-clause-told
returns-clause-told g c =
    told_front c.say_refusal.result (g.E.Write.contents c.args.faults.now) (g.E.Write.contents c.say_refusal.new.faults)
    c.args.refusal.now c.say_refusal.ensures
