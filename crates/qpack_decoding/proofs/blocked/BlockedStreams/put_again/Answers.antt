use Rattle.std.proofs.Common.{subst, ap, sym, ◌∙◌, ◌≡◌, List}
use Rattle.std.specs.Ordering.{is_eq}
use Rattle.std.specs.Set.{remove_key}
use Rattle.std.specs.List.Sorted.{IsStrictlySortedBy}
use Rattle.qpack_shared.specs.declared.streams.BlockedStream.{BlockedStream}
use Rattle.qpack_decoding.specs.Blocked.{by_count, required_of, with_blocked, AreMapped}
use Rattle.qpack_decoding.proofs.BlockedStreams.{put_again, mapped_with}
use Rattle.qpack_decoding.proofs.blocked.BlockedStreams.put_again.Goals as goal

-- behind the insertion and the removal
put : (c : goal.In-Ok-insert) → c.remove.new.self.keys ≡ with_blocked c.args.stream c.self.inside.streams.keys
put c =
    c.remove.ensures.keys
    ∙ ap (λ (bs : List BlockedStream). remove_key
    (λ x. is_eq (by_count (record { required = c.args.required; stream = c.args.stream.stream }) x)) bs)
    c.in-Ok.ensures.keys
    ∙ put_again c.args.stream c.args.required c.self.inside.streams.keys
    (ap (λ (bs : List BlockedStream). required_of c.args.stream.stream bs) c.self.view_is ∙ c.requires.there)
    c.requires.another c.self.invariant.once c.self.invariant.ordered

pub invariant_of-self-2 : goal.invariant_of-self-2
invariant_of-self-2 c =
    subst (λ (bs : List BlockedStream). AreMapped bs c.insert-2.new.self) (sym (put c))
    (mapped_with c.self.inside.required c.insert-2.new.self c.args.stream c.self.inside.streams.keys c.self.invariant
    (subst (λ (bs : List BlockedStream). IsStrictlySortedBy by_count bs) (put c) c.remove.ensures.ordered)
    c.in-Ok-insert.ensures.updates.0)

pub returns-clause-ok : goal.returns-clause-ok
returns-clause-ok c = put c ∙ ap (λ (bs : List BlockedStream). with_blocked c.args.stream bs) c.self.view_is
