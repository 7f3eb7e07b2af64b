use Rattle.std.proofs.Common.{◌∙◌, ap}
use Rattle.std.specs.Cow.{cow_str_bytes}
use Rattle.qpk.specs.Refusals.{Says, TellsBy}
use Rattle.qpk.proofs.Tellings.{told_as, told_of_memory}
use Rattle.qpk.proofs.serve.say_refusal.Goals.{in-Ok, in-Err}
use Rattle.qpk.proofs.serve.say_refusal.Goals as goal

pub returns : goal.returns
returns g c =
    let says = Says c.say.result (g.E.Write.contents c.args.faults.now) (g.E.Write.contents c.say.new.faults) in
    elim c.match-line.branch as (λ b. TellsBy c.args.refusal.now says) [
      | in-Ok w ↦ told_as c.args.refusal.now says _
          (c.as_str.ensures.value ∙ ap cow_str_bytes w.line-is ∙ w.in-Ok.ensures.line) c.say.ensures
      | in-Err w ↦ told_of_memory c.args.refusal.now says _
          (c.as_str.ensures.value ∙ ap cow_str_bytes w.line-is) w.in-Err.ensures.memory c.say.ensures
    ]
