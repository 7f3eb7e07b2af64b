use Rattle.std.proofs.Common.{◌≡◌, length}
use Rattle.qpack_spec.specs.Instruction.{Cancellation}
use Rattle.qpack_spec.specs.Table.{apply_decoder_instruction}
use Rattle.qpack_table.proofs.dynamic.table.DynamicTable.untrack_stream.Given as goal

abbrev pub invariant-loop : goal.invariant-loop
invariant-loop g l = apply_decoder_instruction l.self (Cancellation l.stream_id)
    ≡ apply_decoder_instruction l.initial.self (Cancellation l.stream_id)

abbrev pub decreases-loop : goal.decreases-loop
decreases-loop g l = length l.self.unacknowledged
