use Rattle.std.proofs.Common.{◌≡◌, Some, subst, sym, ap, ◌∙◌}
use Rattle.qpack_encoding.specs.Encoders.{EncodingEnd, IsSound}
use Rattle.qpack_encoding.proofs.Encoders.{begins_sound, begins_held, held_is, not_held}
use Rattle.qpack_encoding.proofs.encoder.ConnectionEncoder.begin.Goals as goal

pub returns-then-is_held : goal.returns-then-is_held
returns-then-is_held c =
    let wanted : c.args.self.now.wanted ≡ Some c.in-Some.capacity =
    sym (ap (λ (d : EncodingEnd). d.wanted) c.self.view_is) ∙ c.in-Some.is in
    begins_held c.args.self.now c.tell-told.new.self c.in-Some.capacity c.tell-told.result wanted c.tell-told.ensures
    (held_is c.tell-told.result (sym c.is_held.ensures ∙ c.if-is_held.true))

pub returns : goal.returns
returns c =
    let wanted : c.args.self.now.wanted ≡ Some c.in-Some.capacity =
    sym (ap (λ (d : EncodingEnd). d.wanted) c.self.view_is) ∙ c.in-Some.is in
    begins_sound c.args.self.now c.tell-told.new.self c.in-Some.capacity c.tell-told.result
    (subst IsSound c.self.view_is c.self.invariant.0) wanted c.tell-told.ensures
    (not_held c.tell-told.result (sym c.is_held.ensures ∙ c.if-is_held.false))
