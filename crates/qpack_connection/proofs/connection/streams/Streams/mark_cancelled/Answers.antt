use Rattle.std.proofs.Common.{true, IsSome, subst, ap, sym}
use Rattle.qpack_codec.proofs.Streams.{is_not, stream_written}
use Rattle.qpack_connection.proofs.connection.streams.Streams.mark_cancelled.Goals.{in-Some, in_default}
use Rattle.qpack_connection.proofs.connection.streams.Streams.mark_cancelled.Goals as goal

pub returns : goal.returns
returns c = elim c.match-get_mut.branch [
  | in-Some w ↦ stream_written c.args.self.now _ c.self.inside.by_number
      (c.get_mut.follows.lender w.mark_cancelled.new.self) c.args.number w.in-Some.stream.now
      w.mark_cancelled.new.self (λ k. record k { cancelled = true }) c.self.view_is
      (sym (ap (λ i. i.by_number.entries) w.self-inside-is)) w.in-Some.ensures.value w.mark_cancelled.ensures
      (c.get_mut.follows.holds w.mark_cancelled.new.self)
  | in_default w ↦ absurd (is_not
      (subst (λ o. IsSome o) (sym w.in_default.ensures.value) (rw (← c.self.view_is) at c.requires)))
]
