use Rattle.qpack_rules.proofs.LawfulStreams.{never_refused, are_taken}
use Rattle.qpack_rules.proofs.stream.lawful_streams_are_taken.Goals as goal

pub returns-clause-never_refused : goal.returns-clause-never_refused
returns-clause-never_refused c = never_refused

pub returns-clause-taken : goal.returns-clause-taken
returns-clause-taken c = are_taken
