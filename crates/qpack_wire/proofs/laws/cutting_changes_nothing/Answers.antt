use Rattle.qpack_wire.proofs.Cuttings.{instructions_any_cutting, decoder_instructions_any_cutting}
use Rattle.qpack_wire.proofs.laws.cutting_changes_nothing.Goals as goal

pub returns-clause-instructions : goal.returns-clause-instructions
returns-clause-instructions c = instructions_any_cutting

pub returns-clause-decoder_instructions : goal.returns-clause-decoder_instructions
returns-clause-decoder_instructions c = decoder_instructions_any_cutting
