use Rattle.qpack_connection.proofs.HeardFronts.{fronts_heard}
use Rattle.qpack_connection.proofs.WrittenReports.{decoders_may}
use Rattle.qpack_connection.proofs.laws.decoders_write_what_they_may.Goals as goal

pub returns-clause-written : goal.returns-clause-written
returns-clause-written c = decoders_may

pub returns-clause-rest : goal.returns-clause-rest
returns-clause-rest c = fronts_heard
