use Rattle.std.proofs.Common.{◌≡◌}
use Rattle.qpk_view.proofs.watch.Watch.finish.Given as goal

abbrev pub invariant-loop : goal.invariant-loop
invariant-loop g l = g.W.Watcher.json l.watcher ≡ g.W.Watcher.json l.fn.watcher
