use Rattle.std.proofs.Common.{◌≡◌, ◌-◌, ◌^◌, ◌<◌}
use Rattle.qpack_spec.specs.Integer.{groups_at}
use Rattle.qpack_base.proofs.Groups.{above}
use Rattle.qpack_base.proofs.prefix_int.read_groups.Given as goal

abbrev pub invariant-loop : goal.invariant-loop
invariant-loop l = record {
  read : above l.sum l.weight (groups_at (9 - l.counter) l.buf.rest) ≡ groups_at 9 l.fn.buf.rest;
  total : l.buf.total ≡ l.fn.buf.total;
  weight : l.weight ≡ 128 ^ l.counter;
  sum : l.sum < l.weight;
}
