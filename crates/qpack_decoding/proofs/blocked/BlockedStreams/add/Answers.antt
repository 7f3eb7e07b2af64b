use Rattle.std.proofs.Common.{subst, ap, sym, ◌∙◌, ◌≡◌, List}
use Rattle.std.specs.List.Sorted.{IsStrictlySortedBy}
use Rattle.qpack_shared.specs.declared.streams.BlockedStream.{BlockedStream}
use Rattle.qpack_decoding.specs.Blocked.{by_count, required_of, with_blocked, AreMapped}
use Rattle.qpack_decoding.proofs.BlockedStreams.{put_new, mapped_with}
use Rattle.qpack_decoding.proofs.blocked.BlockedStreams.add.Goals as goal

-- behind the insertion
put : (c : goal.In-Ok-insert)
    → c.insert-2.new.self.keys ≡ with_blocked c.args.stream c.self.inside.streams.keys
put c =
    c.in-Ok-insert.ensures.keys
    ∙ put_new c.args.stream c.self.inside.streams.keys
    (ap (λ (bs : List BlockedStream). required_of c.args.stream.stream bs) c.self.view_is ∙ c.requires)
    c.self.invariant.once

pub invariant_of-self-in-Ok-insert : goal.invariant_of-self-in-Ok-insert
invariant_of-self-in-Ok-insert c =
    subst (λ (bs : List BlockedStream). AreMapped bs c.insert.new.self) (sym (put c))
    (mapped_with c.self.inside.required c.insert.new.self c.args.stream c.self.inside.streams.keys c.self.invariant
    (subst (λ (bs : List BlockedStream). IsStrictlySortedBy by_count bs) (put c) c.in-Ok-insert.ensures.ordered)
    c.in-Ok.ensures.updates.0)

pub returns-clause-ok : goal.returns-clause-ok
returns-clause-ok c =
    put c ∙ ap (λ (bs : List BlockedStream). with_blocked c.args.stream bs) c.self.view_is
