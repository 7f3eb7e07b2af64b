use Rattle.std.proofs.Common.{Ok, Err, sym, ◌∙◌}
use Rattle.qpack_decoding.specs.Decoders.{end_of}
use Rattle.qpack_connection.proofs.ConnectionCalls.{cancel_goes, gives_through}
use Rattle.qpack_connection.proofs.connection.ends.Ends.cancel.Goals as goal

pub returns-in-Ok : goal.returns-in-Ok
returns-in-Ok c =
    cancel_goes c.self.inside.encoder (end_of c.self.inside.decoder) (end_of c.cancel.new.self)
    c.self.inside.encoder_stream_received
    c.self.inside.decoder_stream_received c.self.inside.streams c.mark_cancelled.new.self c.args.self.now c.args.number
    (Ok tt) c.self.view_is (sym c.cancel_skip.ensures ∙ c.in_default.is) c.in-Ok.ensures.cancels
    (gives_through c.self.inside.encoder (end_of c.self.inside.decoder) (end_of c.cancel.new.self)
    c.self.inside.encoder_stream_received
    c.self.inside.decoder_stream_received c.self.inside.streams c.mark_cancelled.new.self c.args.number
    c.open.new.self c.open.ensures.same c.mark_cancelled.ensures)

pub returns-in-Err : goal.returns-in-Err
returns-in-Err c =
    cancel_goes c.self.inside.encoder (end_of c.self.inside.decoder) (end_of c.cancel.new.self)
    c.self.inside.encoder_stream_received
    c.self.inside.decoder_stream_received c.self.inside.streams c.open.new.self c.args.self.now c.args.number
    (Err c.in-Err.e) c.self.view_is (sym c.cancel_skip.ensures ∙ c.in_default.is) c.in-Err.ensures.cancels
    (λ n. sym (c.open.ensures.same n))
