use Rattle.std.proofs.Common.{Ok, Err, refl}
use Rattle.qpack_decoding.specs.declared.section.Reading.TheVariants as reading
use Rattle.qpack_decoding.specs.Decoders.{end_of}
use Rattle.qpack_connection.proofs.ConnectionCalls.{decode_goes, needs_asks, read_stops}
use Rattle.qpack_connection.proofs.connection.ends.Ends.decode.Goals as goal

pub returns-in-Ok-Fields : goal.returns-in-Ok-Fields
returns-in-Ok-Fields c =
    decode_goes c.self.inside.encoder (end_of c.self.inside.decoder) (end_of c.decode.new.self)
    c.self.inside.encoder_stream_received
    c.self.inside.decoder_stream_received c.self.inside.streams c.mark_decoded.new.self c.args.self.now c.args.number
    c.in-Ok.section.now c.decode.new.fields (Ok (reading.Fields c.in-Ok-Fields.required)) c.self.view_is
    c.in-Ok.ensures.found c.in-Ok.ensures.live (rw c.in-Ok-Fields.field-0-is at c.in-Ok-Fields.ensures.decodes)
    (λ stops. absurd (read_stops (reading.Fields c.in-Ok-Fields.required) stops))
    c.mark_decoded.ensures

pub returns-in-Ok-Blocked : goal.returns-in-Ok-Blocked
returns-in-Ok-Blocked c =
    decode_goes c.self.inside.encoder (end_of c.self.inside.decoder) (end_of c.decode.new.self)
    c.self.inside.encoder_stream_received
    c.self.inside.decoder_stream_received c.self.inside.streams c.self.inside.streams c.args.self.now c.args.number
    c.in-Ok.section.now c.decode.new.fields (Ok (reading.Blocked c.in-Ok-Blocked.required)) c.self.view_is
    c.in-Ok.ensures.found c.in-Ok.ensures.live (rw c.in-Ok-Blocked.field-0-is at c.in-Ok-Blocked.ensures.decodes)
    (λ stops. absurd (read_stops (reading.Blocked c.in-Ok-Blocked.required) stops))
    (λ n. refl)

pub returns-in-Err-decode : goal.returns-in-Err-decode
returns-in-Err-decode c =
    decode_goes c.self.inside.encoder (end_of c.self.inside.decoder) (end_of c.decode.new.self)
    c.self.inside.encoder_stream_received
    c.self.inside.decoder_stream_received c.self.inside.streams c.self.inside.streams c.args.self.now c.args.number
    c.in-Ok.section.now c.decode.new.fields (Err c.in-Err-decode.e) c.self.view_is c.in-Ok.ensures.found
    c.in-Ok.ensures.live c.in-Err-decode.ensures.decodes
    (λ stops. needs_asks c.self.inside.decoder c.args.number c.in-Ok.section.now c.new-fields.result
    (c.in-Err-decode.ensures.memory stops))
    (λ n. refl)
