use Rattle.qpack_connection.proofs.LawfulWriters.{encoders_keep, encoders_write}
use Rattle.qpack_connection.proofs.laws.encoders_keep_to_the_standard.Goals as goal

pub returns-clause-keep : goal.returns-clause-keep
returns-clause-keep c = encoders_keep

pub returns-clause-writers : goal.returns-clause-writers
returns-clause-writers c = encoders_write
