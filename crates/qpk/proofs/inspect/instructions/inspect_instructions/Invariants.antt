use Rattle.std.proofs.Common.{◌≡◌, length}
use Rattle.std.specs.Prelude.{string_bytes}
use Rattle.qpk.proofs.InspectedInstructions.{HasInspected}
use Rattle.qpk.proofs.inspect.instructions.inspect_instructions.Given as goal

abbrev pub invariant-loop : goal.invariant-loop
invariant-loop l = record {
  inspected : HasInspected l.fn.decoder.table l.decoder.table l.fn.bytes l.buf.rest (string_bytes l.fn.text)
      (string_bytes l.text);
  total : l.buf.total ≡ length l.fn.bytes;
}

abbrev pub decreases-loop : goal.decreases-loop
decreases-loop l = length l.buf.rest
