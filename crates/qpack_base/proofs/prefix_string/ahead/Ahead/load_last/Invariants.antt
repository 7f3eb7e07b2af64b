use Rattle.std.proofs.Common.{◌≡◌, ◌+◌, ◌*◌, ◌^◌, ◌<◌, length}
use Rattle.qpack_base.specs.Payloads.{bits_ahead, IsAhead}
use Rattle.qpack_base.proofs.prefix_string.ahead.Ahead.load_last.Given as goal

abbrev pub invariant-loop-first : goal.invariant-loop-first
invariant-loop-first l = record {
  left : bits_ahead l.ahead ≡ bits_ahead l.fn.self;
  ahead : IsAhead l.ahead;
  small : l.ahead.loaded < 2 ^ 64;
  few : l.ahead.count + 8 * length l.ahead.rest.now < 64;
}

abbrev pub decreases-loop-first : goal.decreases-loop-first
decreases-loop-first l = length l.ahead.rest.now
