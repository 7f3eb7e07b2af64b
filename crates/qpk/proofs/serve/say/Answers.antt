use Rattle.std.proofs.Common.{subst}
use Rattle.qpk.specs.Refusals.{Says}
use Rattle.qpk.proofs.serve.say.Goals as goal

pub returns : goal.returns
returns g c =
    subst (Says c.write_bytes.result (g.E.Write.contents c.args.faults.now) (g.E.Write.contents c.write_bytes.new.to))
    c.as_bytes.ensures.value (c.write_bytes.ensures.all, c.write_bytes.ensures.part)
