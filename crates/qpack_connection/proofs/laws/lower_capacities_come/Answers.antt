use Rattle.qpack_connection.proofs.LowerCapacities.{lower_capacities_come}
use Rattle.qpack_connection.proofs.laws.lower_capacities_come.Goals as goal

pub returns : goal.returns
returns c = lower_capacities_come
