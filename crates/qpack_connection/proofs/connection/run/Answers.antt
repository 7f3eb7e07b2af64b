use Rattle.std.proofs.lemmas.Result.{err_from_is_err_and}
use Rattle.qpack_connection.proofs.ConnectionRuns.{goes_from_new, all_answer}
use Rattle.qpack_connection.proofs.Headline.{events_answer}
use Rattle.qpack_connection.proofs.connection.run.Goals as goal

pub returns-clause-goes : goal.returns-clause-goes
returns-clause-goes c = (
  c.in_ok-connection.connection,
  c.in_ok-connection.ensures.ok,
  goes_from_new c.args.settings c.in_ok-connection.connection c.step_all.new.self c.args.events.items
      c.in_ok-outcomes.outcomes.items c.step_all.new.outcomes.items c.in_ok-connection.ensures.ok
      c.in_ok-outcomes.ensures.items c.step_all.ensures,
)

pub returns-clause-answers : goal.returns-clause-answers
returns-clause-answers c =
    all_answer c.args.settings c.args.events.items c.step_all.new.outcomes.items c.in_ok-connection.connection
    c.step_all.new.self c.in_ok-connection.ensures.ok
    (goes_from_new c.args.settings c.in_ok-connection.connection c.step_all.new.self c.args.events.items
    c.in_ok-outcomes.outcomes.items c.step_all.new.outcomes.items c.in_ok-connection.ensures.ok
    c.in_ok-outcomes.ensures.items c.step_all.ensures)

pub returns-clause-headline : goal.returns-clause-headline
returns-clause-headline c =
    events_answer c.args.settings c.in_ok-connection.connection c.step_all.new.self c.args.events.items
    c.step_all.new.outcomes.items c.in_ok-connection.ensures.ok
    (goes_from_new c.args.settings c.in_ok-connection.connection c.step_all.new.self c.args.events.items
    c.in_ok-outcomes.outcomes.items c.step_all.new.outcomes.items c.in_ok-connection.ensures.ok
    c.in_ok-outcomes.ensures.items c.step_all.ensures)

pub returns-in_err-outcomes-clause-err : goal.returns-in_err-outcomes-clause-err
returns-in_err-outcomes-clause-err c =
    let p = err_from_is_err_and c.from_residual-in_err-outcomes.result c.from_residual-in_err-outcomes.ensures.1 in
    rw (p.1, p.2) tt
