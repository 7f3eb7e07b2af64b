use Rattle.std.proofs.Common.{ap, ◌∙◌}
use Rattle.qpack_rules.specs.Session.{Decode}
use Rattle.h3_qpack.proofs.Sessions.{follows_from, stays_from, reached_behind, skipped, decode_skips}
use Rattle.h3_qpack.proofs.SessionEvents.{decodes, decodes_nothing}
use Rattle.h3_qpack.proofs.SessionMemory.{decode_asks}
use Rattle.h3_qpack.specs.Sessions.{SessionView}
use Rattle.h3_qpack.proofs.session.Session.decode.Goals as goal

pub returns-in-Err-clause-goes : goal.returns-in-Err-clause-goes
returns-in-Err-clause-goes c =
    stays_from _ c.args.self.now _ _ c.self.view_is
    (skipped _ (Decode c.args.number) c.in-Err.reason c.self.invariant tt
    (λ v shows. decode_skips _ v c.args.number shows ∙ c.in-Err.ensures.skipped))

pub invariant_of-self : goal.invariant_of-self
invariant_of-self c =
    reached_behind _ _ _ _ c.self.invariant
    (decodes _ c.mark_decoded.new.self c.args.number c.in-Ok.bytes.now c.in-Ok-decode_header.decoded c.self.invariant
    c.in-Ok.ensures.lawful c.in-Ok.ensures.found
    (rw c.new.ensures.rest at c.in-Ok-decode_header.ensures.exact) c.mark_decoded.ensures)

pub returns-in-Ok-decode_header-clause-goes : goal.returns-in-Ok-decode_header-clause-goes
returns-in-Ok-decode_header-clause-goes c =
    follows_from _ c.args.self.now _ _ _ c.self.view_is
    (decodes _ c.mark_decoded.new.self c.args.number c.in-Ok.bytes.now c.in-Ok-decode_header.decoded c.self.invariant
    c.in-Ok.ensures.lawful c.in-Ok.ensures.found (rw c.new.ensures.rest at c.in-Ok-decode_header.ensures.exact)
    c.mark_decoded.ensures)

pub returns-in-Err-decode_header-clause-goes : goal.returns-in-Err-decode_header-clause-goes
returns-in-Err-decode_header-clause-goes c =
    stays_from _ c.args.self.now _ _ c.self.view_is
    (decodes_nothing _ c.args.number c.in-Ok.bytes.now c.in-Err-decode_header.e c.self.invariant
    c.in-Ok.ensures.lawful c.in-Ok.ensures.found (rw c.new.ensures.rest at c.in-Err-decode_header.ensures.exact))

pub returns-in-Err-decode_header-clause-asks : goal.returns-in-Err-decode_header-clause-asks
returns-in-Err-decode_header-clause-asks c =
    decode_asks c.args.self.now c.args.self.now c.self.inside.streams c.args.number c.in-Ok.bytes.now
    c.in-Err-decode_header.e (ap (λ (s : SessionView). s.streams) c.self.view_is) c.in-Ok.ensures.found
    (rw c.new.ensures.rest at c.in-Err-decode_header.ensures.memory)
