use Rattle.std.proofs.Common.{◌∙◌, ap, sym, arith}
use Rattle.std.proofs.lemmas.Bool.{lt-ltb, le-ltb}
use Rattle.qpack_encoding.specs.contracts.encoder.ConnectionEncoder.{the_view}
use Rattle.qpack_encoding.specs.Encoders.{EncodingEnd, may_block}
use Rattle.qpack_encoding.proofs.LimitedSections.{may_below, may_listed}
use Rattle.qpack_encoding.proofs.encoder.ConnectionEncoder.may_block.Goals as goal

pub returns-then-len-self : goal.returns-then-len-self
returns-then-len-self c =
    let d : EncodingEnd = the_view c.self.inside in
    lt-ltb c.len.result c.self.inside.settings.max_blocked c.if-len-self.true
    ∙ sym (may_below c.self.inside.at_risk.streams.items d c.args.stream c.self.invariant.1.streams
    (lt-ltb _ c.self.inside.settings.max_blocked (omega (arith, c.if-len-self.true, c.len.ensures))))
    ∙ ap (λ (x : EncodingEnd). may_block x c.args.stream) c.self.view_is

pub returns-else-len-self : goal.returns-else-len-self
returns-else-len-self c =
    let d : EncodingEnd = the_view c.self.inside in
    c.contains.ensures
    ∙ may_listed c.self.inside.at_risk.streams.items d c.args.stream c.self.invariant.1.streams
    (le-ltb _ c.self.inside.settings.max_blocked (omega (arith, c.if-len-self.false, c.len.ensures)))
    ∙ ap (λ (x : EncodingEnd). may_block x c.args.stream) c.self.view_is
