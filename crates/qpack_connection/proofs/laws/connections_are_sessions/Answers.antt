use Rattle.qpack_connection.proofs.RefinedCancellations.{cancellations_refined}
use Rattle.qpack_connection.proofs.RefinedCapacities.{new_refined, capacities_refined, shrinks_refined}
use Rattle.qpack_connection.proofs.RefinedConnections.{encodes_refined}
use Rattle.qpack_connection.proofs.RefinedHearings.{hearings_refined}
use Rattle.qpack_connection.proofs.RefinedReceptions.{receptions_refined}
use Rattle.qpack_connection.proofs.RefinedDecodes.{decodes_refined}
use Rattle.qpack_connection.proofs.RefinedRefusals as refusals
use Rattle.qpack_connection.proofs.laws.connections_are_sessions.Goals as goal

pub returns-clause-new : goal.returns-clause-new
returns-clause-new c = new_refined

pub returns-clause-encodes : goal.returns-clause-encodes
returns-clause-encodes c = encodes_refined

pub returns-clause-capacities : goal.returns-clause-capacities
returns-clause-capacities c = capacities_refined

pub returns-clause-shrinks : goal.returns-clause-shrinks
returns-clause-shrinks c = shrinks_refined

pub returns-clause-cancellations : goal.returns-clause-cancellations
returns-clause-cancellations c = cancellations_refined

pub returns-clause-hearings : goal.returns-clause-hearings
returns-clause-hearings c = hearings_refined

pub returns-clause-receptions : goal.returns-clause-receptions
returns-clause-receptions c = receptions_refined

pub returns-clause-decodes : goal.returns-clause-decodes
returns-clause-decodes c = decodes_refined

pub returns-clause-refused_encodes : goal.returns-clause-refused_encodes
returns-clause-refused_encodes c = refusals.refused_encodes

pub returns-clause-refused_capacities : goal.returns-clause-refused_capacities
returns-clause-refused_capacities c = refusals.refused_capacities

pub returns-clause-refused_shrinks : goal.returns-clause-refused_shrinks
returns-clause-refused_shrinks c = refusals.refused_shrinks

pub returns-clause-refused_cancellations : goal.returns-clause-refused_cancellations
returns-clause-refused_cancellations c = refusals.refused_cancellations
