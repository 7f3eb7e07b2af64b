use Rattle.qpack_connection.proofs.ConnectionRuns.{begun_reached}
use Rattle.qpack_connection.proofs.connection.Connection.new.Goals as goal

pub invariant_of-result : goal.invariant_of-result
invariant_of-result c = begun_reached c.args.settings _ c.in_ok-ends.ensures.ok
