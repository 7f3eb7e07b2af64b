use Rattle.std.proofs.Common.{rules}
use Rattle.qpk_show.specs.Showing.{Section, is_waiting}
use Rattle.qpk_show.proofs.Observers.{shown_unless_blocked}
use Rattle.qpk_show.proofs.observer.Observer.show_read.Goals as goal

pub returns : goal.returns
returns c = λ r is.
    let shown = shown_unless_blocked c.args.self.now c.args.index c.args.arrived c.args.reading r is
    c.in_default.not-Blocked in
    (Section c.args.arrived.stream (is_waiting c.args.arrived) r, (r, is, search rules), search rules)
