use Rattle.std.proofs.Common.{refl, inl, ap, ◌∙◌, Some}
use Rattle.h3_qpack_c.specs.declared.encoder.State.{State}
use Rattle.h3_qpack_c.proofs.encoder.h3q_encoder_new.Goals as goal

pub returns-in-Ok-new : goal.returns-in-Ok-new
returns-in-Ok-new c =
    let new = c.in-Ok.ensures.ok in
    inl (
      refl,
      new.0.capacity_in_range,
      (c.in-Ok.state, c.put.ensures ∙ ap (λ (s : State). Some s) c.in-Ok-new.ensures.ok, new),
    )
