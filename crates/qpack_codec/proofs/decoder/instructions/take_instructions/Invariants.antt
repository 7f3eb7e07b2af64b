use Rattle.std.proofs.Common.{◌≡◌, length}
use Rattle.qpack_spec.specs.Instruction.{encoder_instruction_form}
use Rattle.qpack_spec.specs.Table.{apply_encoder_instruction}
use Rattle.qpack_codec.specs.Receiving.{Stops}
use Rattle.qpack_codec.proofs.decoder.instructions.take_instructions.Given as goal
use Rattle.qpack_codec.proofs.Taking.{HasTaken}

abbrev pub invariant-loop : goal.invariant-loop
invariant-loop g l = record {
  taken : HasTaken encoder_instruction_form apply_encoder_instruction Stops l.fn.table l.table l.fn.buf.rest l.buf.rest;
  total : l.buf.total ≡ l.fn.buf.total;
}

abbrev pub decreases-loop : goal.decreases-loop
decreases-loop g l = length l.buf.rest
