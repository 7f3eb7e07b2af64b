use Rattle.std.proofs.Common.{◌≡◌, ◌+◌, true, subst, ap, sym}
use Rattle.qpack_rules.specs.Session.{awaits_acknowledgment}
use Rattle.h3_qpack.specs.Sessions.{StoredStream, stored_requires_entry}
use Rattle.qpack_codec.proofs.Streams.{is_not, unused, stream_found, stream_missing, stream_written}
use Rattle.h3_qpack.proofs.session.streams.Streams.mark_acknowledged.Goals.{in-Some, in_default}
use Rattle.h3_qpack.proofs.session.streams.Streams.mark_acknowledged.Goals as goal

-- in a stream that was never used nothing is to be acknowledged
none_awaited : (k : StoredStream) → k ≡ unused → awaits_acknowledgment stored_requires_entry k ≡ true → ⊥
none_awaited k e h =
    is_not (subst (λ (x : StoredStream). awaits_acknowledgment stored_requires_entry x ≡ true) e h)

pub mark_acknowledged-requires : goal.mark_acknowledged-requires
mark_acknowledged-requires c =
    subst (λ (k : StoredStream). awaits_acknowledgment stored_requires_entry k ≡ true)
    (stream_found c.self.inside.by_number.entries c.args.number c.in-Some.stream.now c.in-Some.ensures.value)
    (rw (← c.self.view_is) at c.requires)

pub returns : goal.returns
returns c = elim c.match-get_mut.branch [
  | in-Some w ↦ stream_written c.args.self.now _ c.self.inside.by_number
      (c.get_mut.follows.lender w.mark_acknowledged.new.self) c.args.number w.in-Some.stream.now
      w.mark_acknowledged.new.self (λ k. record k { acknowledged = k.acknowledged + 1 }) c.self.view_is
      (sym (ap (λ i. i.by_number.entries) w.self-inside-is)) w.in-Some.ensures.value w.mark_acknowledged.ensures
      (c.get_mut.follows.holds w.mark_acknowledged.new.self)
  | in_default w ↦ absurd (none_awaited _
      (stream_missing c.self.inside.by_number.entries c.args.number w.in_default.ensures.value)
      (rw (← c.self.view_is) at c.requires))
]
