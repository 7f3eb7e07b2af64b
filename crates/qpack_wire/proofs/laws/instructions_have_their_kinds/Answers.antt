use Rattle.qpack_wire.proofs.StreamKinds.{four_kinds, three_kinds}
use Rattle.qpack_wire.proofs.laws.instructions_have_their_kinds.Goals as goal

pub returns-clause-encoder : goal.returns-clause-encoder
returns-clause-encoder c = four_kinds

pub returns-clause-decoder : goal.returns-clause-decoder
returns-clause-decoder c = three_kinds
