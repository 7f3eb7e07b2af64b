use Rattle.qpack_connection.proofs.FirstEnds.{unused_first}
use Rattle.qpack_connection.proofs.LateSettings.{unused_still, late_as_early}
use Rattle.qpack_connection.proofs.laws.settings_may_come_late.Goals as goal

pub returns-clause-new : goal.returns-clause-new
returns-clause-new c = unused_first

pub returns-clause-before : goal.returns-clause-before
returns-clause-before c = unused_still

pub returns-clause-after : goal.returns-clause-after
returns-clause-after c = late_as_early
