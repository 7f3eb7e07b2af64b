use Rattle.std.proofs.Common.{inl, inr, refl}
use Rattle.qpk.specs.Refusals.{Says}
use Rattle.qpk.proofs.Tellings.{ends_told, found_of}
use Rattle.qpk.proofs.serve.serve_and_say.Goals as goal

pub returns-in-Ok-clause-answered : goal.returns-in-Ok-clause-answered
returns-in-Ok-clause-answered g c = λ _.
    let well = c.in-Ok.ensures.answered in (_, (well.0, well.1, well.2), c.say_note.ensures)

pub returns-in-Ok-clause-refused : goal.returns-in-Ok-clause-refused
returns-in-Ok-clause-refused g c = λ other.
    let well = c.in-Ok.ensures.answered in
    inr (_, well.0, well.1, well.2, found_of well.0 _ well.3 other, c.say_note.ensures)

pub returns-in-Err-clause-refused : goal.returns-in-Err-clause-refused
returns-in-Err-clause-refused g c = λ _.
    let told = ends_told c.args.words.now (g.R.Read.remaining c.args.input.now) (g.W.Write.contents c.args.output.now)
    (g.W.Write.contents c.run.new.output) c.in-Err.refusal
    (Says c.say_refusal.result (g.E.Write.contents c.args.faults.now) (g.E.Write.contents c.say_refusal.new.faults))
    c.in-Err.ensures.refused c.say_refusal.ensures in
    inl (refl, told.0, told.1, told.2)
