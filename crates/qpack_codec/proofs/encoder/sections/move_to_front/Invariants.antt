use Rattle.std.proofs.Common.{◌≡◌, length}
use Rattle.qpack_codec.proofs.Turns.{turned}
use Rattle.qpack_codec.proofs.encoder.sections.move_to_front.Given as goal

abbrev pub invariant-loop : goal.invariant-loop
invariant-loop l = record {
  len : length l.bytes ≡ length l.fn.bytes;
  moved : l.bytes ≡ turned l.counter l.fn.bytes;
}
