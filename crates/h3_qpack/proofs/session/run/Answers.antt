use Rattle.qpack_safety.proofs.Headline.{answers_handed}
use Rattle.qpack_safety.specs.SessionSafety.{RunsByTheRule, RefusesNothing, DecodesWhatWasHanded}
use Rattle.qpack_safety.specs.SessionSafety.{WaitsOnlyForInsertions}
use Rattle.h3_qpack.proofs.SessionAnswers.{run_unrefused, run_exact}
use Rattle.h3_qpack.proofs.SessionRuns.{runs, runs_so}
use Rattle.h3_qpack.proofs.session.run.Goals as goal

pub returns-clause-headline : goal.returns-clause-headline
returns-clause-headline c =
    let ran = runs_so c.args.capacity c.args.capacity c.args.limit c.in_ok-session.session
    c.perform_all.new.self c.args.events.now c.in_ok-outcomes.outcomes.items c.perform_all.new.outcomes.items
    c.in_ok-session.ensures.reaches c.in_ok-outcomes.ensures.items c.perform_all.ensures in (
      ran.steps,
      ran.answered,
      answers_handed c.args.capacity c.args.capacity c.args.limit ran.reaches.within ran.steps ran.session
          ran.reaches.run,
    )

pub returns-clause-follows : goal.returns-clause-follows
returns-clause-follows c =
    runs (λ steps v. RunsByTheRule c.args.capacity c.args.capacity c.args.limit steps v) c.args.capacity c.args.capacity
    c.args.limit
    (λ steps v safe. safe.follows) c.in_ok-session.session
    c.perform_all.new.self c.args.events.now c.in_ok-outcomes.outcomes.items c.perform_all.new.outcomes.items
    c.in_ok-session.ensures.reaches c.in_ok-outcomes.ensures.items c.perform_all.ensures

pub returns-clause-refuses : goal.returns-clause-refuses
returns-clause-refuses c =
    runs (λ steps v. RefusesNothing v) c.args.capacity c.args.capacity c.args.limit
    (λ steps v safe. safe.refuses) c.in_ok-session.session
    c.perform_all.new.self c.args.events.now c.in_ok-outcomes.outcomes.items c.perform_all.new.outcomes.items
    c.in_ok-session.ensures.reaches c.in_ok-outcomes.ensures.items c.perform_all.ensures

pub returns-clause-decodes : goal.returns-clause-decodes
returns-clause-decodes c =
    runs (λ steps v. DecodesWhatWasHanded c.args.capacity c.args.capacity steps v) c.args.capacity c.args.capacity
    c.args.limit
    (λ steps v safe. safe.decodes) c.in_ok-session.session
    c.perform_all.new.self c.args.events.now c.in_ok-outcomes.outcomes.items c.perform_all.new.outcomes.items
    c.in_ok-session.ensures.reaches c.in_ok-outcomes.ensures.items c.perform_all.ensures

pub returns-clause-waits : goal.returns-clause-waits
returns-clause-waits c =
    runs (λ steps v. WaitsOnlyForInsertions steps v) c.args.capacity c.args.capacity c.args.limit
    (λ steps v safe. safe.waits) c.in_ok-session.session
    c.perform_all.new.self c.args.events.now c.in_ok-outcomes.outcomes.items c.perform_all.new.outcomes.items
    c.in_ok-session.ensures.reaches c.in_ok-outcomes.ensures.items c.perform_all.ensures

pub returns-clause-unrefused : goal.returns-clause-unrefused
returns-clause-unrefused c =
    let ran = runs_so c.args.capacity c.args.capacity c.args.limit c.in_ok-session.session
    c.perform_all.new.self c.args.events.now c.in_ok-outcomes.outcomes.items c.perform_all.new.outcomes.items
    c.in_ok-session.ensures.reaches c.in_ok-outcomes.ensures.items c.perform_all.ensures in
    run_unrefused c.args.capacity c.args.capacity c.args.limit ran.reaches.within ran.session c.args.events.now
    c.perform_all.new.outcomes.items ran.steps
    ran.reaches.run ran.answered

pub returns-clause-exact : goal.returns-clause-exact
returns-clause-exact c =
    let ran = runs_so c.args.capacity c.args.capacity c.args.limit c.in_ok-session.session
    c.perform_all.new.self c.args.events.now c.in_ok-outcomes.outcomes.items c.perform_all.new.outcomes.items
    c.in_ok-session.ensures.reaches c.in_ok-outcomes.ensures.items c.perform_all.ensures in
    record {
      steps = ran.steps;
      session = ran.session;
      answered = ran.answered;
      reaches = ran.reaches;
      holds = run_exact c.args.capacity c.args.capacity c.args.limit ran.reaches.within ran.session c.args.events.now
          c.perform_all.new.outcomes.items
          ran.steps ran.reaches.run ran.answered;
    }
