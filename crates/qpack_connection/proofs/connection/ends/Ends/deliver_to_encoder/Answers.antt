use Rattle.std.proofs.Common.{ℕ, List, length, sym, ap, ◌∙◌}
use Rattle.qpack_decoding.specs.Decoders.{end_of}
use Rattle.qpack_decoding.proofs.Decoders.{is_taken}
use Rattle.qpack_connection.proofs.ConnectionCalls.{hear_goes, offered_is}
use Rattle.qpack_connection.proofs.connection.ends.Ends.deliver_to_encoder.Goals as goal

pub returns : goal.returns
returns c =
    let after = c.decoder_stream.follows.lender-at-none in
    let told = c.decoder_stream.follows.holds-at-none in
    let bytes = offered_is after.unsent.bytes c.decoder_stream.result.now c.next_of-offered.result.now
    c.new-offered.result.rest c.self.inside.decoder_stream_received c.args.many told.1
    c.next_of-offered.ensures c.new-offered.ensures.rest in
    hear_goes c.self.inside.encoder c.receive-answer.new.self (end_of c.self.inside.decoder) (end_of after)
    c.self.inside.encoder_stream_received c.self.inside.decoder_stream_received c.self.inside.streams c.args.many
    c.receive-answer.new.buf.rest c.receive-answer.result c.args.self.now c.position.result c.self.view_is c.requires
    (is_taken c.self.inside.decoder after told.0)
    (rw bytes at c.receive-answer.ensures.receives) c.receive-answer.ensures.left
    (c.position.ensures ∙ c.receive-answer.ensures.total ∙ c.new-offered.ensures.total
    ∙ ap (λ (x : List ℕ). length x) (sym c.new-offered.ensures.rest ∙ bytes))
