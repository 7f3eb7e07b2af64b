use Rattle.std.proofs.Common.{◌≡◌, Err, inr, subst, sym, ap, ◌∙◌}
use Rattle.qpack_spec.specs.Table.{with_capacity}
use Rattle.qpack_spec.specs.Window.{DoesNotFit}
use Rattle.qpack_encoding.specs.Encoders.{EncodingEnd, IsSound, waiting}
use Rattle.qpack_encoding.proofs.Encoders.{held_within, shrinks_set, shrinks_held}
use Rattle.qpack_encoding.proofs.encoder.ConnectionEncoder.shrink.Goals as goal

pub invariant_of-self : goal.invariant_of-self
invariant_of-self c =
    let k = shrinks_held c.args.self.now c.set_capacity-set.new.self c.args.capacity c.set_capacity-set.result
    (subst IsSound c.self.view_is c.self.invariant.0) c.set_capacity-set.ensures
    (sym c.is_held.ensures ∙ c.if-is_held.true) in
    let held : with_capacity c.self.inside.table.table c.args.capacity ≡ Err DoesNotFit =
    subst (λ (d : EncodingEnd). with_capacity d.table c.args.capacity ≡ Err DoesNotFit)
    (sym (c.self.view_is ∙ k.0)) k.1 in (
      record {
        wanted = held_within c.self.inside.table.table c.args.capacity held;
        stream = c.self.invariant.0.stream;
        failure = c.self.invariant.0.failure;
      },
      c.self.invariant.1,
      c.self.invariant.2,
    )

pub returns-then-is_held : goal.returns-then-is_held
returns-then-is_held c =
    let k = shrinks_held c.args.self.now c.set_capacity-set.new.self c.args.capacity c.set_capacity-set.result
    (subst IsSound c.self.view_is c.self.invariant.0) c.set_capacity-set.ensures
    (sym c.is_held.ensures ∙ c.if-is_held.true) in
    (k.2, inr (k.1, ap (waiting c.args.capacity) (c.self.view_is ∙ k.0)))

pub returns : goal.returns
returns c =
    shrinks_set c.args.self.now c.set_capacity-set.new.self c.args.capacity c.set_capacity-set.result
    c.set_capacity-set.ensures (sym c.is_held.ensures ∙ c.if-is_held.false)
