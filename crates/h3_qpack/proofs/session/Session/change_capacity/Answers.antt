use Rattle.std.proofs.Common.{arith}
use Rattle.h3_qpack.proofs.Sessions.{follows_from, reached_behind}
use Rattle.h3_qpack.proofs.SessionEvents.{sets_capacity}
use Rattle.h3_qpack.proofs.session.Session.change_capacity.Goals as goal

pub invariant_of-self : goal.invariant_of-self
invariant_of-self c =
    let written = c.set_capacity.new.encoder_buf in
    reached_behind _ _ _ _ c.self.invariant
    (sets_capacity _ c.set_capacity.new.self written.items c.args.capacity c.set_capacity.result c.self.invariant
    (omega (arith, written.ok.0, written.ok.1, written.small)) c.set_capacity.ensures.sets)

pub returns-clause-goes : goal.returns-clause-goes
returns-clause-goes c =
    let written = c.set_capacity.new.encoder_buf in
    follows_from _ c.args.self.now _ _ _ c.self.view_is
    (sets_capacity _ c.set_capacity.new.self written.items c.args.capacity c.set_capacity.result c.self.invariant
    (omega (arith, written.ok.0, written.ok.1, written.small)) c.set_capacity.ensures.sets)
