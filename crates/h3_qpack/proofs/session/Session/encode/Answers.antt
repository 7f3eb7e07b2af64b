use Rattle.std.proofs.Common.{sym, ◌∙◌}
use Rattle.qpack_rules.specs.Session.{Encode}
use Rattle.h3_qpack.proofs.Sessions.{follows_from, stays_from, reached_behind, skipped}
use Rattle.h3_qpack.proofs.SessionBlocks.{encodes, encode_skips}
use Rattle.qpack_codec.specs.Stateless.{fields_in}
use Rattle.h3_qpack.proofs.session.Session.encode.Goals as goal

pub returns-in-Some-clause-goes : goal.returns-in-Some-clause-goes
returns-in-Some-clause-goes c =
    stays_from _ c.args.self.now _ _ c.self.view_is
    (skipped _ (Encode c.args.number (fields_in c.args.fields.now)) c.in-Some.reason c.self.invariant
    c.recall_fields.ensures
    (λ v shows. encode_skips v c.args.number (fields_in c.args.fields.now) ∙ sym c.encode_skip.ensures
    ∙ c.in-Some.is))

pub invariant_of-self : goal.invariant_of-self
invariant_of-self c =
    reached_behind _ _ _ _ c.self.invariant
    (encodes _ c.encode.new.encoder c.encode.new.encoder_stream.items c.encode.new.self c.args.number
    (fields_in c.args.fields.now) c.encode.result c.self.invariant (sym c.encode_skip.ensures
    ∙ c.in_default.is) c.recall_fields.ensures
    c.encode.ensures.ok c.encode.ensures.err c.encode.ensures.as_before c.encode.ensures.memory)

pub returns-clause-goes : goal.returns-clause-goes
returns-clause-goes c =
    follows_from _ c.args.self.now _ _ _ c.self.view_is
    (encodes _ c.encode.new.encoder c.encode.new.encoder_stream.items c.encode.new.self c.args.number
    (fields_in c.args.fields.now) c.encode.result c.self.invariant (sym c.encode_skip.ensures
    ∙ c.in_default.is) c.recall_fields.ensures
    c.encode.ensures.ok c.encode.ensures.err c.encode.ensures.as_before c.encode.ensures.memory)
