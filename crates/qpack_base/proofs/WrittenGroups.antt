-- Writing an integer group by group.
use Rattle.qpack_spec.proofs.WrittenIntegers.{groups_last, groups_more}

-- the last group, and one before it
pub ruleset written_steps = (groups_last, groups_more)
