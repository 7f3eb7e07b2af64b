use Rattle.std.proofs.Common.{◌≡◌, ◌≤◌, ℕ, List, length}
use Rattle.qpack_spec.specs.Table.{Table, insert_count}
use Rattle.qpack_decoding.specs.Receiving.{Receives, TakesIn}
use Rattle.qpack_decoding.proofs.encoder_stream.EncoderStream.receive_bytes.Given as goal

abbrev pub invariant-loop-self : goal.invariant-loop-self
invariant-loop-self g l = record {
  taken : (start : Table) (before : List ℕ) → Receives start l.fn.table before l.fn.self
      → TakesIn start l.table before l.fn.buf.rest l.buf.rest l.fn.self l.self;
  grows : insert_count l.fn.table ≤ insert_count l.table;
  total : l.buf.total ≡ l.fn.buf.total;
}

abbrev pub decreases-loop-self : goal.decreases-loop-self
decreases-loop-self g l = length l.buf.rest
