use Rattle.std.proofs.Common.{sym, ◌∙◌}
use Rattle.qpack_rules.specs.Session.{Acknowledge}
use Rattle.h3_qpack.proofs.Sessions.{follows_from, stays_from, reached_behind, skipped, acknowledgment_skips}
use Rattle.h3_qpack.proofs.SessionEvents.{acknowledges, acknowledges_nothing}
use Rattle.h3_qpack.proofs.session.Session.acknowledge.Goals as goal

pub returns-in-Some-clause-goes : goal.returns-in-Some-clause-goes
returns-in-Some-clause-goes c =
    stays_from _ c.args.self.now _ _ c.self.view_is
    (skipped _ (Acknowledge c.args.number) c.in-Some.reason c.self.invariant tt
    (λ v shows. acknowledgment_skips _ v c.args.number shows ∙ sym c.acknowledgment_skip.ensures ∙ c.in-Some.is))

pub invariant_of-self : goal.invariant_of-self
invariant_of-self c =
    reached_behind _ _ _ _ c.self.invariant
    (acknowledges _ c.mark_acknowledged.new.self c.ack_header.new.decoder.items c.args.number c.self.invariant
    (sym c.acknowledgment_skip.ensures ∙ c.in_default.is) c.mark_acknowledged.ensures c.in-Ok.ensures.writes.ok)

pub returns-in-Ok-clause-goes : goal.returns-in-Ok-clause-goes
returns-in-Ok-clause-goes c =
    follows_from _ c.args.self.now _ _ _ c.self.view_is
    (acknowledges _ c.mark_acknowledged.new.self c.ack_header.new.decoder.items c.args.number c.self.invariant
    (sym c.acknowledgment_skip.ensures ∙ c.in_default.is) c.mark_acknowledged.ensures c.in-Ok.ensures.writes.ok)

pub returns-in-Err-clause-goes : goal.returns-in-Err-clause-goes
returns-in-Err-clause-goes c =
    follows_from _ c.args.self.now _ _ _ c.self.view_is
    (acknowledges_nothing _ c.ack_header.new.decoder.items c.args.number c.in-Err.e c.self.invariant
    (sym c.acknowledgment_skip.ensures ∙ c.in_default.is) c.in-Err.ensures.writes.err)
