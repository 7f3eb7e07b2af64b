use Rattle.std.proofs.Common.{◌≡◌, ◌<◌, length, vec_len, vec_capacity}
use Rattle.qpack_base.proofs.PutCodes.{IsPut}
use Rattle.qpack_base.proofs.prefix_string.encoding.with_payload.Given as goal

abbrev pub invariant-loop-four : goal.invariant-loop-four
invariant-loop-four g l = record {
  put : IsPut l.text l.rest l.pending.count l.pending.bits (vec_len l.initial.buf) (vec_len l.buf)
      l.initial.buf.items l.buf.items;
  few : l.pending.count < 32;
  capacity : vec_capacity l.buf ≡ vec_capacity l.initial.buf;
}

abbrev pub decreases-loop-four : goal.decreases-loop-four
decreases-loop-four g l = length l.rest
