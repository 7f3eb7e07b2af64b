use Rattle.std.proofs.Common.{subst, ap, sym, ◌∙◌, ◌≡◌, ◌≤◌, List}
use Rattle.std.specs.List.Sorted.{IsStrictlySortedBy}
use Rattle.qpack_shared.specs.declared.streams.BlockedStream.{BlockedStream}
use Rattle.qpack_shared.specs.Streams.{without}
use Rattle.qpack_decoding.specs.Blocked.{by_count, blocked_among, AreMapped}
use Rattle.qpack_decoding.proofs.BlockedStreams.{take_key, unlisted_without, mapped_without, left_within}
use Rattle.qpack_decoding.proofs.blocked.BlockedStreams.forget.Goals as goal

-- behind the removal
taken : (c : goal.After-remove-in-Some)
    → c.remove-in-Some.new.self.keys ≡ without c.args.stream c.self.inside.streams.keys
taken c =
    c.remove-in-Some.ensures.keys
    ∙ take_key c.args.stream c.in-Some.required c.self.inside.streams.keys
    (sym (c.self.invariant.each c.args.stream) ∙ sym c.remove.ensures.value ∙ c.in-Some.is) c.self.invariant.once

pub invariant_of-self : goal.invariant_of-self
invariant_of-self c =
    subst (λ (bs : List BlockedStream). AreMapped bs c.remove.new.self) (sym (taken c))
    (mapped_without c.self.inside.required c.remove.new.self c.args.stream c.self.inside.streams.keys
    c.self.invariant
    (subst (λ (bs : List BlockedStream). IsStrictlySortedBy by_count bs) (taken c) c.remove-in-Some.ensures.ordered)
    c.remove.ensures.updates.0)

pub returns-in-Some-clause-others : goal.returns-in-Some-clause-others
returns-in-Some-clause-others c =
    taken c ∙ ap (λ (bs : List BlockedStream). without c.args.stream bs) c.self.view_is

pub returns-in-Some-clause-few : goal.returns-in-Some-clause-few
returns-in-Some-clause-few c inserted =
    subst (λ (bs : List BlockedStream). blocked_among inserted c.remove-in-Some.new.self.keys
    ≤ blocked_among inserted bs) c.self.view_is
    (subst (λ (bs : List BlockedStream). blocked_among inserted bs
    ≤ blocked_among inserted c.self.inside.streams.keys) (sym (taken c))
    (left_within inserted c.args.stream c.self.inside.streams.keys))

pub returns-in_default-clause-others : goal.returns-in_default-clause-others
returns-in_default-clause-others c =
    sym (unlisted_without c.args.stream c.self.inside.streams.keys
    (sym (c.self.invariant.each c.args.stream) ∙ sym c.remove.ensures.value ∙ c.in_default.is))
    ∙ ap (λ (bs : List BlockedStream). without c.args.stream bs) c.self.view_is
