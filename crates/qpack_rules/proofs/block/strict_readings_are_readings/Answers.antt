use Rattle.qpack_rules.proofs.StrictReadings.{strict_are_readings, strict_are_within}
use Rattle.qpack_spec.proofs.Prefixes.{strict_agrees}
use Rattle.qpack_rules.proofs.block.strict_readings_are_readings.Goals as goal

pub returns-clause-read : goal.returns-clause-read
returns-clause-read c = strict_are_readings

pub returns-clause-within : goal.returns-clause-within
returns-clause-within c = strict_are_within

pub returns-clause-prefixes : goal.returns-clause-prefixes
returns-clause-prefixes c = strict_agrees
