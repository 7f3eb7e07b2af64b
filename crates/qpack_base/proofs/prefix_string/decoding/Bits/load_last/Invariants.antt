use Rattle.std.proofs.Common.{◌≡◌, ◌+◌, ◌*◌, ◌<◌, length}
use Rattle.qpack_base.specs.Payloads.{bits_left, IsLoaded}
use Rattle.qpack_base.proofs.prefix_string.decoding.Bits.load_last.Given as goal

abbrev pub invariant-loop-first : goal.invariant-loop-first
invariant-loop-first l = record {
  left : bits_left l.self ≡ bits_left l.initial.self;
  loaded : IsLoaded l.self;
  few : l.self.count + 8 * length l.self.rest.now < 64;
}

abbrev pub decreases-loop-first : goal.decreases-loop-first
decreases-loop-first l = length l.self.rest.now
