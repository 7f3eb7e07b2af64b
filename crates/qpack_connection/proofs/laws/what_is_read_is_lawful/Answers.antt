use Rattle.qpack_connection.proofs.HeardVerdicts.{heard_lawful}
use Rattle.qpack_connection.proofs.LawfulVerdicts.{taken_lawful, read_lawful}
use Rattle.qpack_connection.proofs.laws.what_is_read_is_lawful.Goals as goal

pub returns-clause-encoder_stream : goal.returns-clause-encoder_stream
returns-clause-encoder_stream c = taken_lawful

pub returns-clause-sections : goal.returns-clause-sections
returns-clause-sections c = read_lawful

pub returns-clause-decoder_stream : goal.returns-clause-decoder_stream
returns-clause-decoder_stream c = heard_lawful
