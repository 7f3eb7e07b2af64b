use Rattle.qpack_rules.proofs.SkippedEvents.{skipped_exactly}
use Rattle.qpack_rules.proofs.session.events_are_skipped_exactly.Goals as goal

pub returns : goal.returns
returns c = skipped_exactly
