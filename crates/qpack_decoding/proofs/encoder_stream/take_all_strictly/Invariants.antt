use Rattle.std.proofs.Common.{◌≡◌, length}
use Rattle.qpack_decoding.proofs.PlacedTaking.{HasTaken}
use Rattle.qpack_decoding.proofs.encoder_stream.take_all_strictly.Given as goal

abbrev pub invariant-loop : goal.invariant-loop
invariant-loop g l = record {
  taken : HasTaken l.fn.table l.table l.fn.place l.place l.fn.buf.rest l.buf.rest;
  total : l.buf.total ≡ l.fn.buf.total;
}

abbrev pub decreases-loop : goal.decreases-loop
decreases-loop g l = length l.buf.rest
