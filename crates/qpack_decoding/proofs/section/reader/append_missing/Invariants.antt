use Rattle.std.proofs.Common.{◌≡◌, ◌≤◌, ◌++◌, length, max, vec_capacity}
use Rattle.qpack_decoding.specs.Lines.{Extends}
use Rattle.qpack_decoding.proofs.section.reader.append_missing.Given as goal

abbrev pub invariant-loop-rest : goal.invariant-loop-rest
invariant-loop-rest l = record {
  cut : l.fn.pending.items ++ l.fn.bytes ≡ l.pending.items ++ l.rest;
  extends : Extends l.fn.pending.items l.pending.items;
  kept : vec_capacity l.fn.pending ≤ vec_capacity l.pending;
  room : vec_capacity l.pending ≤ max (vec_capacity l.fn.pending) l.fn.most;
}

abbrev pub decreases-loop-rest : goal.decreases-loop-rest
decreases-loop-rest l = length l.rest
