use Rattle.std.proofs.Common.{ℕ, List, length, sym, ap, ◌∙◌}
use Rattle.qpack_decoding.specs.Decoders.{end_of}
use Rattle.qpack_connection.proofs.ConnectionCalls.{receive_goes, offered_is}
use Rattle.qpack_connection.proofs.connection.ends.Ends.deliver_to_decoder.Goals as goal

pub returns : goal.returns
returns c =
    let bytes = offered_is c.self.inside.encoder.unsent c.encoder_stream.result.now c.next_of-offered.result.now
    c.new-offered.result.rest c.self.inside.encoder_stream_received c.args.many c.encoder_stream.ensures
    c.next_of-offered.ensures c.new-offered.ensures.rest in
    receive_goes c.self.inside.encoder (end_of c.self.inside.decoder) (end_of c.receive-answer.new.self)
    c.self.inside.encoder_stream_received c.self.inside.decoder_stream_received c.self.inside.streams c.args.many
    c.receive-answer.new.buf.rest c.args.self.now c.receive-answer.result c.position.result c.self.view_is c.requires
    (rw bytes at c.receive-answer.ensures.receives)
    (c.position.ensures ∙ c.receive-answer.ensures.total ∙ c.new-offered.ensures.total
    ∙ ap (λ (x : List ℕ). length x) (sym c.new-offered.ensures.rest ∙ bytes))
