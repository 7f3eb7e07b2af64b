use Rattle.std.proofs.Common.{refl}
use Rattle.qpack_encoding.proofs.Encoders.{not_told}
use Rattle.qpack_encoding.proofs.BareEnds.{sized_bare}
use Rattle.qpack_encoding.proofs.LimitedSections.{tracks_capacity}
use Rattle.qpack_encoding.proofs.encoder.ConnectionEncoder.tell.Goals as goal

pub invariant_of-self : goal.invariant_of-self
invariant_of-self c = (
  record { wanted = tt; stream = c.self.invariant.0.stream; failure = c.self.invariant.0.failure },
  tracks_capacity c.self.inside.at_risk.streams.items c.self.inside.table.table c.set_capacity.new.table
      c.args.capacity c.in-Ok.ensures.sets.0 c.self.invariant.1,
  λ zero. (sized_bare c.self.inside.table.table c.set_capacity.new.table c.args.capacity c.in-Ok.ensures.sets.0
      (c.self.invariant.2 zero)).1,
)

pub returns-in-Err : goal.returns-in-Err
returns-in-Err c =
    let stops = not_told c.args.capacity c.self.inside.table.table c.set_capacity.new.table
    c.self.inside.unsent.bytes c.set_capacity.new.unsent.bytes c.in-Err.error c.in-Err.ensures.sets in
    rw (c.of_capacity.ensures, stops.1, stops.2, ← c.self.view_is) (stops.0, refl)
