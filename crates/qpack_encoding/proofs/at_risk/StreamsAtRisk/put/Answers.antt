use Rattle.std.proofs.Common.{◌≡◌, ◌∙◌, ap, sym, cond, false, Bool, List, [], ◌∷◌, ◌++◌, rules, tests}
use Rattle.std.specs.Prelude.{nat_eq, not}
use Rattle.std.proofs.lemmas.Fn.{filter_same}
use Rattle.qpack_shared.specs.declared.streams.BlockedStream.{BlockedStream}
use Rattle.qpack_shared.specs.Streams.{without}
use Rattle.qpack_encoding.specs.Risk.{covers}
use Rattle.qpack_encoding.proofs.at_risk.StreamsAtRisk.put.Goals as goal

pub returns : goal.returns
returns c =
    let old = c.args.self.now.streams.items in
    let none : covers c.args.stream old ≡ false = sym c.covers.ensures ∙ c.if-covers.false in
    let left : c.retain.new.self.items ≡ without c.args.stream.stream old =
    filter_same _ (λ (r : BlockedStream). not (nat_eq r.stream c.args.stream.stream)) _
    (λ x b f t. search (rules, tests)) old c.retain.new.self.items c.retain.ensures.filtered in
    c.push_reserved.ensures.items
    ∙ ap (λ (l : List BlockedStream). l ++ c.args.stream ∷ []) left
    ∙ sym (ap (λ (b : Bool). cond b old (without c.args.stream.stream old ++ c.args.stream ∷ [])) none)
