use Rattle.qpk.proofs.Tellings.{command_wants_memory}
use Rattle.qpk.proofs.serve.run_command.Goals as goal

pub returns-in-Err-clause-refused : goal.returns-in-Err-clause-refused
returns-in-Err-clause-refused g c = command_wants_memory _ _ _ _ c.in-Err.ensures.memory
