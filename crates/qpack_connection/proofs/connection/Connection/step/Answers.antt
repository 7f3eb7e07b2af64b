use Rattle.qpack_connection.proofs.ConnectionRuns.{goes_reached, goes_so, reached_within}
use Rattle.qpack_connection.proofs.connection.Connection.step.Goals as goal

pub invariant_of-self : goal.invariant_of-self
invariant_of-self c =
    goes_reached c.self.inside.ends c.perform.new.self c.args.event c.perform.result c.self.invariant c.perform.ensures

pub returns-clause-answers : goal.returns-clause-answers
returns-clause-answers c =
    goes_so c.args.self.now c.perform.new.self c.args.event c.perform.result c.recall_events.ensures
    (rw c.self.view_is at c.perform.ensures)

pub returns-clause-within : goal.returns-clause-within
returns-clause-within c =
    reached_within c.perform.new.self
    (goes_reached c.self.inside.ends c.perform.new.self c.args.event c.perform.result c.self.invariant
    c.perform.ensures)
