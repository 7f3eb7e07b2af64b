use Rattle.std.proofs.Common.{◌≡◌}
use Rattle.qpk_check.proofs.check.judge_waiting.Given as goal

abbrev pub invariant-loop-waiting : goal.invariant-loop-waiting
invariant-loop-waiting l = l.report.json ≡ l.fn.report.json
