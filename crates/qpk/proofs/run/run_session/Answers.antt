use Rattle.std.specs.Prelude.{string_bytes}
use Rattle.qpk.specs.Scripts.{events_in}
use Rattle.qpk.proofs.ScriptRuns.{session_runs}
use Rattle.qpk.proofs.run.run_session.Goals as goal

pub returns : goal.returns
returns c =
    session_runs c.args.capacity c.args.limit (events_in c.args.events.now) (string_bytes c.args.text.now)
    (string_bytes c.run_events.new.text) c.in_ok-session.session c.run_events.new.session c.run_events.result
    c.in_ok-session.ensures c.run_events.ensures
