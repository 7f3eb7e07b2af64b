use Rattle.std.proofs.Common.{rules}
use Rattle.qpack_table.specs.Hashes.{name_hash, field_hash}
use Rattle.qpack_table.proofs.dynamic.index.hash.Hashes.of.Goals as goal

pub returns-clause-name : goal.returns-clause-name
unfolding name_hash
returns-clause-name c = search rules

pub returns-clause-field : goal.returns-clause-field
unfolding field_hash
returns-clause-field c = search rules
