use Rattle.std.proofs.Common.{inl, inr}
use Rattle.qpk.proofs.Tellings.{front_of, note_front}
use Rattle.qpk.proofs.serve.serve.Goals as goal

pub returns-clause-answered : goal.returns-clause-answered
returns-clause-answered g c = λ well.
    let old = g.E.Write.contents c.args.faults.now in let new = g.E.Write.contents c.serve_and_say.new.faults in
    let done = c.serve_and_say.ensures.answered well in
    (done.0, done.1, note_front c.serve_and_say.result.said old new done.0 done.2)

pub returns-clause-refused : goal.returns-clause-refused
returns-clause-refused g c = λ other.
    let old = g.E.Write.contents c.args.faults.now in let new = g.E.Write.contents c.serve_and_say.new.faults in
    let said = c.serve_and_say.result.said in
    elim (c.serve_and_say.ensures.refused other) [
      | inl ended ↦ inl (ended.0, ended.1, ended.2, front_of said old new _ ended.3.0 ended.3.1)
      | inr found ↦ inr (found.0, found.1, found.2, found.3, found.4, note_front said old new found.0 found.5)
    ]
