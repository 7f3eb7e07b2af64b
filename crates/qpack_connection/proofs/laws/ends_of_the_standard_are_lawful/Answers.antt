use Rattle.qpack_connection.proofs.LawfulRows.{appendix_encoder, appendix_sections, appendix_decoder}
use Rattle.qpack_connection.proofs.LawfulRows.{appendix_order, appendix_peer}
use Rattle.qpack_connection.proofs.PieceRows.{appendix_pieces}
use Rattle.qpack_connection.proofs.laws.ends_of_the_standard_are_lawful.Goals as goal

pub returns-clause-encoder_stream : goal.returns-clause-encoder_stream
returns-clause-encoder_stream c = appendix_encoder

pub returns-clause-sections : goal.returns-clause-sections
returns-clause-sections c = appendix_sections

pub returns-clause-pieces : goal.returns-clause-pieces
returns-clause-pieces c = appendix_pieces

pub returns-clause-decoder_stream : goal.returns-clause-decoder_stream
returns-clause-decoder_stream c = appendix_decoder

pub returns-clause-order : goal.returns-clause-order
returns-clause-order c = appendix_order

pub returns-clause-peers : goal.returns-clause-peers
returns-clause-peers c = appendix_peer
