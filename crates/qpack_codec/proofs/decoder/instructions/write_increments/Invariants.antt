use Rattle.qpack_codec.proofs.Increments.{HasReported}
use Rattle.qpack_codec.proofs.decoder.instructions.write_increments.Given as goal

abbrev pub invariant-loop-rest : goal.invariant-loop-rest
invariant-loop-rest g l = HasReported l.fn.insertions l.rest l.fn.buf l.buf

abbrev pub decreases-loop-rest : goal.decreases-loop-rest
decreases-loop-rest g l = l.rest
