use Rattle.std.proofs.Common.{sym, ◌∙◌}
use Rattle.qpack_rules.specs.Session.{Cancel}
use Rattle.h3_qpack.proofs.Sessions.{follows_from, stays_from, reached_behind, skipped, cancellation_skips}
use Rattle.h3_qpack.proofs.SessionEvents.{cancels}
use Rattle.h3_qpack.proofs.session.Session.cancel.Goals as goal

pub returns-in-Some-clause-goes : goal.returns-in-Some-clause-goes
returns-in-Some-clause-goes c =
    stays_from _ c.args.self.now _ _ c.self.view_is
    (skipped _ (Cancel c.args.number) c.in-Some.reason c.self.invariant tt
    (λ v shows. cancellation_skips _ v c.args.number shows ∙ sym c.cancellation_skip.ensures ∙ c.in-Some.is))

pub invariant_of-self : goal.invariant_of-self
invariant_of-self c =
    reached_behind _ _ _ _ c.self.invariant
    (cancels _ c.cancel.new.self c.cancel.new.decoder_stream.items c.args.number c.cancel.result c.self.invariant
    (sym c.cancellation_skip.ensures ∙ c.in_default.is)
    c.cancel.ensures.ok c.cancel.ensures.writes c.cancel.ensures.err c.cancel.ensures.as_before)

pub returns-clause-goes : goal.returns-clause-goes
returns-clause-goes c =
    follows_from _ c.args.self.now _ _ _ c.self.view_is
    (cancels _ c.cancel.new.self c.cancel.new.decoder_stream.items c.args.number c.cancel.result c.self.invariant
    (sym c.cancellation_skip.ensures ∙ c.in_default.is)
    c.cancel.ensures.ok c.cancel.ensures.writes c.cancel.ensures.err c.cancel.ensures.as_before)
