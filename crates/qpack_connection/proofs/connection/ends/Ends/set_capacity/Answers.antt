use Rattle.qpack_decoding.specs.Decoders.{end_of}
use Rattle.qpack_connection.proofs.ConnectionCalls.{capacity_goes}
use Rattle.qpack_connection.proofs.connection.ends.Ends.set_capacity.Goals as goal

pub returns : goal.returns
returns c =
    capacity_goes c.self.inside.encoder c.set_capacity.new.self (end_of c.self.inside.decoder)
    c.self.inside.encoder_stream_received c.self.inside.decoder_stream_received c.self.inside.streams c.args.self.now
    c.args.capacity c.set_capacity.result c.self.view_is c.set_capacity.ensures
