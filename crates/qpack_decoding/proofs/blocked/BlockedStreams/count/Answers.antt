use Rattle.std.proofs.Common.{◌≡◌, ◌∙◌, ◌-◌, subst, rules, tests, arith, List, length, Bool}
use Rattle.std.specs.Prelude.{nat_le}
use Rattle.std.specs.List.{prefix_len}
use Rattle.std.proofs.lemmas.Iterator.Consumers.{count_from_yields_List, YieldsList-from_rest}
use Rattle.std.proofs.lemmas.Iterator.Search.{YieldsList-from_take_while}
use Rattle.std.proofs.lemmas.List.Folds.{length-prefix_len}
use Rattle.qpack_shared.specs.declared.streams.BlockedStream.{BlockedStream}
use Rattle.qpack_decoding.specs.Blocked.{blocked_among}
use Rattle.qpack_decoding.proofs.BlockedStreams.{ready_and_blocked}
use Rattle.qpack_decoding.proofs.blocked.BlockedStreams.count.Goals as goal

pub returns : goal.returns
returns c =
    let ready : BlockedStream → Bool = λ b. nat_le b.required c.args.inserted in
    let bs = c.self.inside.streams.keys in
    let counted : c.count.result ≡ prefix_len ready bs =
    count_from_yields_List c.take_while-unblocked.result _ c.count.ensures.ran
    (YieldsList-from_take_while _ ready (YieldsList-from_rest bs cc) c.take_while-unblocked.ensures.closure
    c.take_while-unblocked.ensures.done (λ x b q k. search (rules, tests)))
    ∙ length-prefix_len ready bs in
    let all = ready_and_blocked c.args.inserted bs c.self.invariant.ordered in
    let len : c.len.result ≡ length bs = c.len.ensures.len in
    subst (λ (l : List BlockedStream). c.len.result - c.count.result ≡ blocked_among c.args.inserted l) c.self.view_is
    (omega (arith, counted, all, len))
