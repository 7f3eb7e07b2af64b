use Rattle.std.specs.Prelude.{string_bytes}
use Rattle.qpk.proofs.ScriptRuns.{script_runs}
use Rattle.qpk.proofs.run.run_script.Goals as goal

pub returns : goal.returns
returns c =
    let runs = rw c.new-out.ensures.bytes at c.in_ok-run_session.ensures in
    script_runs c.args.capacity c.args.limit c.args.text.now (string_bytes c.run_session.new.text)
    c.in_ok-events.events.items c.deref.result.now c.in_ok-events.ensures c.deref.ensures.value runs
