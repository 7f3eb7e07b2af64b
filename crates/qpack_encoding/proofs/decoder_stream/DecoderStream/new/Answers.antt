use Rattle.qpack_encoding.proofs.HeardStreams.{nothing_received}
use Rattle.qpack_encoding.proofs.decoder_stream.DecoderStream.new.Goals as goal

pub returns : goal.returns
returns c = nothing_received c.new.result c.first.result c.new.ensures c.first.ensures
