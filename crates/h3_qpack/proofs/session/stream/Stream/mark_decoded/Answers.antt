use Rattle.std.proofs.Common.{take, arith}
use Rattle.std.proofs.lemmas.List.{length-take}
use Rattle.qpack_safety.proofs.Fronts.{length_filter}
use Rattle.h3_qpack.specs.Sessions.{stored_requires_entry}
use Rattle.h3_qpack.proofs.session.stream.Stream.mark_decoded.Goals as goal

pub overflow_add-self : goal.overflow_add-self
overflow_add-self c =
    let s = c.self.inside in
    let front = take s.decoded s.blocks.items in
    omega (
      arith,
      c.self.invariant.dynamic_are,
      length_filter stored_requires_entry front,
      length-take s.decoded s.blocks.items,
      c.self.ranges,
    )
