use Rattle.qpack_decoding.specs.Decoders.{end_of}
use Rattle.qpack_connection.proofs.ConnectionCalls.{shrink_goes}
use Rattle.qpack_connection.proofs.connection.ends.Ends.shrink.Goals as goal

pub returns : goal.returns
returns c =
    shrink_goes c.self.inside.encoder c.shrink.new.self (end_of c.self.inside.decoder)
    c.self.inside.encoder_stream_received c.self.inside.decoder_stream_received c.self.inside.streams c.args.self.now
    c.args.capacity c.shrink.result c.self.view_is c.shrink.ensures
