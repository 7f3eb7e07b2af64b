use Rattle.std.proofs.Common.{ℕ, List, ◌++◌, string_bytes, ap, ◌∙◌, refl, append_assoc}
use Rattle.qpk.proofs.ScriptRuns.{run_more, run_all}
use Rattle.qpk.proofs.run.run_events.Goals as goal

pub loop-event-preserved : goal.loop-event-preserved
loop-event-preserved c =
    let before = c.loop-event.invariant in
    let here = c.in_ok-run_event.ensures in (
      before.0 ++ here.0,
      run_more c.args.session.now c.loop-event.session c.run_event.new.session c.args.events.now
          c.loop-event.event-index c.event-item.result before.0 here.0 _ c.loop-event-test.true c.event-item.is
          before.1 here.1 refl,
      here.2 ∙ ap (λ (xs : List ℕ). xs ++ here.0) before.2
          ∙ append_assoc (string_bytes c.args.text.now) before.0 here.0,
    )

pub returns : goal.returns
returns c =
    let all = c.loop-event.invariant in (
      all.0,
      run_all c.args.session.now c.loop-event.session c.args.events.now c.loop-event.event-index _
          c.loop-event-test.false all.1,
      all.2,
    )
