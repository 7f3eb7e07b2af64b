use Rattle.std.proofs.Common.{◌≡◌, length}
use Rattle.qpack_spec.specs.Instruction.{decoder_instruction_form}
use Rattle.qpack_spec.specs.Table.{apply_decoder_instruction}
use Rattle.qpack_codec.specs.Hearing.{StopsHearing}
use Rattle.qpack_codec.proofs.encoder.take_instructions.Given as goal
use Rattle.qpack_codec.proofs.Taking.{HasTaken}

abbrev pub invariant-loop : goal.invariant-loop
invariant-loop l = record {
  heard : HasTaken decoder_instruction_form apply_decoder_instruction StopsHearing l.fn.table l.table l.fn.buf.rest
      l.buf.rest;
  total : l.buf.total ≡ l.fn.buf.total;
}

abbrev pub decreases-loop : goal.decreases-loop
decreases-loop l = length l.buf.rest
