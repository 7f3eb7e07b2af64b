use Rattle.qpack_connection.proofs.LawfulPieces.{encoder_streams_taken, decoder_streams_heard}
use Rattle.qpack_connection.proofs.laws.lawful_streams_are_never_refused.Goals as goal

pub returns-clause-encoder_stream : goal.returns-clause-encoder_stream
returns-clause-encoder_stream c = encoder_streams_taken

pub returns-clause-decoder_stream : goal.returns-clause-decoder_stream
returns-clause-decoder_stream c = decoder_streams_heard
