use Rattle.std.proofs.Common.{refl}
use Rattle.qpack_decoding.specs.Decoders.{end_of}
use Rattle.qpack_connection.proofs.ConnectionCalls.{encode_goes, shown_still}
use Rattle.qpack_connection.proofs.connection.ends.Ends.encode.Goals as goal

pub returns-in_default : goal.returns-in_default
returns-in_default c = (
  refl,
  tt,
  shown_still c.self.inside.encoder c.encode.new.encoder (end_of c.self.inside.decoder)
      c.self.inside.encoder_stream_received c.self.inside.decoder_stream_received c.self.inside.streams
      c.encode.new.self c.args.self.now c.self.view_is c.in_default.ensures.not_called c.in_default.ensures.err,
)

pub returns : goal.returns
returns c =
    encode_goes c.self.inside.encoder c.encode.new.encoder (end_of c.self.inside.decoder)
    c.self.inside.encoder_stream_received c.self.inside.decoder_stream_received c.self.inside.streams
    c.encode.new.self c.args.self.now c.args.number c.args.fields c.in-Ok.answer c.self.view_is c.in-Ok.ensures.ok
