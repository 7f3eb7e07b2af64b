use Rattle.qpack_decoding.proofs.ReceivedStreams.{nothing_received}
use Rattle.qpack_decoding.proofs.encoder_stream.EncoderStream.new.Goals as goal

pub returns : goal.returns
returns c table = nothing_received table c.first.result c.new.result.items c.first.ensures c.new.ensures.items
