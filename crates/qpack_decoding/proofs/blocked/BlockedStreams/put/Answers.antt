use Rattle.std.proofs.Common.{◌∙◌, sym, subst, ap, List, ℕ, Some, ◌≡◌}
use Rattle.qpack_shared.specs.declared.streams.BlockedStream.{BlockedStream}
use Rattle.qpack_decoding.specs.Blocked.{with_blocked}
use Rattle.qpack_decoding.proofs.BlockedStreams.{put_same}
use Rattle.qpack_decoding.proofs.blocked.BlockedStreams.put.Goals as goal

pub returns-in-Some-clause-ok : goal.returns-in-Some-clause-ok
returns-in-Some-clause-ok c done =
    subst (λ (bs : List BlockedStream). bs ≡ with_blocked c.args.stream bs) c.self.view_is
    (put_same c.args.stream c.self.inside.streams.keys
    (sym (c.self.invariant.each c.args.stream.stream) ∙ sym c.get.ensures.value ∙ sym c.copied.ensures ∙ c.in-Some.is
    ∙ ap (λ (n : ℕ). Some n) c.if-required-stream.true) c.self.invariant.once c.self.invariant.ordered)
