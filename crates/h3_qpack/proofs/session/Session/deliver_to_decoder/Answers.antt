use Rattle.std.proofs.Common.{◌∙◌, arith}
use Rattle.h3_qpack.proofs.Sessions.{follows_from, reached_behind, ordered_reached}
use Rattle.h3_qpack.proofs.SessionDeliveries.{delivers_offered, offers}
use Rattle.h3_qpack.proofs.SessionMemory.{delivery_asks}
use Rattle.h3_qpack.proofs.session.Session.deliver_to_decoder.Goals as goal

pub offered-offered-requires-clause-order : goal.offered-offered-requires-clause-order
offered-offered-requires-clause-order c =
    let o = ordered_reached _ c.self.invariant in
    omega (
      arith,
      o.encoder_stream_taken,
      o.encoder_stream_delivered,
      c.delivered_after-delivered.ensures,
      c.len-len.ensures,
      c.self.inside.encoder_stream.ok.0,
    )

pub invariant_of-self : goal.invariant_of-self
invariant_of-self c =
    reached_behind _ _ _ _ c.self.invariant
    (delivers_offered _ c.on_encoder_recv-answer.new.self c.args.count c.delivered_after-delivered.result
    c.position.result c.on_encoder_recv-answer.new.write.items
    c.new-offered.result.rest c.on_encoder_recv-answer.new.buf.rest c.on_encoder_recv-answer.result c.self.invariant
    (offers c.self.inside.encoder_stream.items c.deref.result.now c.offered-offered.result.now c.new-offered.result.rest
    c.on_encoder_recv-answer.new.buf.rest c.self.inside.encoder_stream_taken c.self.inside.encoder_stream_delivered
    c.args.count
    c.delivered_after-delivered.result c.len-len.result c.position.result c.new-offered.result.total
    c.on_encoder_recv-answer.new.buf.total c.delivered_after-delivered.ensures (c.len-len.ensures
    ∙ c.self.inside.encoder_stream.ok.0)
    c.deref.ensures.value c.offered-offered.ensures c.new-offered.ensures.rest c.new-offered.ensures.total
    c.on_encoder_recv-answer.ensures.total c.position.ensures)
    c.on_encoder_recv-answer.ensures.receives)

pub returns-clause-goes : goal.returns-clause-goes
returns-clause-goes c =
    follows_from _ c.args.self.now _ _ _ c.self.view_is
    (delivers_offered _ c.on_encoder_recv-answer.new.self c.args.count c.delivered_after-delivered.result
    c.position.result c.on_encoder_recv-answer.new.write.items
    c.new-offered.result.rest c.on_encoder_recv-answer.new.buf.rest c.on_encoder_recv-answer.result c.self.invariant
    (offers c.self.inside.encoder_stream.items c.deref.result.now c.offered-offered.result.now
    c.new-offered.result.rest
    c.on_encoder_recv-answer.new.buf.rest c.self.inside.encoder_stream_taken c.self.inside.encoder_stream_delivered
    c.args.count
    c.delivered_after-delivered.result c.len-len.result c.position.result c.new-offered.result.total
    c.on_encoder_recv-answer.new.buf.total c.delivered_after-delivered.ensures (c.len-len.ensures
    ∙ c.self.inside.encoder_stream.ok.0)
    c.deref.ensures.value c.offered-offered.ensures c.new-offered.ensures.rest c.new-offered.ensures.total
    c.on_encoder_recv-answer.ensures.total c.position.ensures)
    c.on_encoder_recv-answer.ensures.receives)

pub returns-clause-asks : goal.returns-clause-asks
returns-clause-asks c =
    delivery_asks _ c.on_encoder_recv-answer.new.self c.args.count c.delivered_after-delivered.result
    c.position.result c.on_encoder_recv-answer.new.write.items
    c.new-offered.result.rest c.on_encoder_recv-answer.new.buf.rest
    (offers c.self.inside.encoder_stream.items c.deref.result.now c.offered-offered.result.now c.new-offered.result.rest
    c.on_encoder_recv-answer.new.buf.rest c.self.inside.encoder_stream_taken c.self.inside.encoder_stream_delivered
    c.args.count
    c.delivered_after-delivered.result c.len-len.result c.position.result c.new-offered.result.total
    c.on_encoder_recv-answer.new.buf.total c.delivered_after-delivered.ensures (c.len-len.ensures
    ∙ c.self.inside.encoder_stream.ok.0)
    c.deref.ensures.value c.offered-offered.ensures c.new-offered.ensures.rest c.new-offered.ensures.total
    c.on_encoder_recv-answer.ensures.total c.position.ensures)
    c.args.self.now c.on_encoder_recv-answer.result c.self.invariant c.on_encoder_recv-answer.ensures.receives
