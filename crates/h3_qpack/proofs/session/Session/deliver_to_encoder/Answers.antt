use Rattle.std.proofs.Common.{◌∙◌, arith}
use Rattle.h3_qpack.proofs.Sessions.{follows_from, reached_behind, ordered_reached}
use Rattle.h3_qpack.proofs.SessionDeliveries.{hears_offered, offers}
use Rattle.h3_qpack.proofs.SessionMemory.{hearing_asks_not}
use Rattle.h3_qpack.proofs.session.Session.deliver_to_encoder.Goals as goal

pub offered-offered-requires-clause-order : goal.offered-offered-requires-clause-order
offered-offered-requires-clause-order c =
    let o = ordered_reached _ c.self.invariant in
    omega (
      arith,
      o.decoder_stream_taken,
      o.decoder_stream_delivered,
      c.delivered_after-delivered.ensures,
      c.len-len.ensures,
      c.self.inside.decoder_stream.ok.0,
    )

pub invariant_of-self : goal.invariant_of-self
invariant_of-self c =
    reached_behind _ _ _ _ c.self.invariant
    (hears_offered _ c.on_decoder_recv-answer.new.self c.args.count c.delivered_after-delivered.result c.position.result
    c.new-offered.result.rest c.on_decoder_recv-answer.new.buf.rest c.on_decoder_recv-answer.result c.self.invariant
    (offers c.self.inside.decoder_stream.items c.deref.result.now c.offered-offered.result.now c.new-offered.result.rest
    c.on_decoder_recv-answer.new.buf.rest c.self.inside.decoder_stream_taken c.self.inside.decoder_stream_delivered
    c.args.count
    c.delivered_after-delivered.result c.len-len.result c.position.result c.new-offered.result.total
    c.on_decoder_recv-answer.new.buf.total c.delivered_after-delivered.ensures (c.len-len.ensures
    ∙ c.self.inside.decoder_stream.ok.0)
    c.deref.ensures.value c.offered-offered.ensures c.new-offered.ensures.rest c.new-offered.ensures.total
    c.on_decoder_recv-answer.ensures.total c.position.ensures)
    c.on_decoder_recv-answer.ensures.hears)

pub returns-clause-goes : goal.returns-clause-goes
returns-clause-goes c =
    follows_from _ c.args.self.now _ _ _ c.self.view_is
    (hears_offered _ c.on_decoder_recv-answer.new.self c.args.count c.delivered_after-delivered.result
    c.position.result
    c.new-offered.result.rest c.on_decoder_recv-answer.new.buf.rest c.on_decoder_recv-answer.result c.self.invariant
    (offers c.self.inside.decoder_stream.items c.deref.result.now c.offered-offered.result.now
    c.new-offered.result.rest
    c.on_decoder_recv-answer.new.buf.rest c.self.inside.decoder_stream_taken c.self.inside.decoder_stream_delivered
    c.args.count
    c.delivered_after-delivered.result c.len-len.result c.position.result c.new-offered.result.total
    c.on_decoder_recv-answer.new.buf.total c.delivered_after-delivered.ensures (c.len-len.ensures
    ∙ c.self.inside.decoder_stream.ok.0)
    c.deref.ensures.value c.offered-offered.ensures c.new-offered.ensures.rest c.new-offered.ensures.total
    c.on_decoder_recv-answer.ensures.total c.position.ensures)
    c.on_decoder_recv-answer.ensures.hears)

pub returns-clause-asks : goal.returns-clause-asks
returns-clause-asks c =
    hearing_asks_not c.args.self.now c.args.self.now c.args.count c.on_decoder_recv-answer.result
    c.on_decoder_recv-answer.ensures.no_memory
