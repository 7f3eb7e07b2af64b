use Rattle.std.proofs.Common.{◌≡◌, ◌<◌, length, subst, ap, sym, arith}
use Rattle.qpack_rules.specs.Session.{RequestStream}
use Rattle.qpack_codec.proofs.Streams.{unused, stream_found, stream_missing, stream_written}
use Rattle.qpack_connection.specs.Connections.{SentSection}
use Rattle.qpack_connection.specs.ConnectionEvents.{decoded_with}
use Rattle.qpack_connection.proofs.connection.streams.Streams.mark_decoded.Goals.{in-Some, in_default}
use Rattle.qpack_connection.proofs.connection.streams.Streams.mark_decoded.Goals as goal

-- a stream that was never used has no undecoded section
none_undecoded : (k : RequestStream SentSection) → k ≡ unused → k.decoded < length k.blocks → ⊥
none_undecoded k e h =
    absurd (omega (arith, subst (λ (x : RequestStream SentSection). x.decoded < length x.blocks) e h))

pub mark_decoded-requires : goal.mark_decoded-requires
mark_decoded-requires c =
    subst (λ (k : RequestStream SentSection). k.decoded < length k.blocks)
    (stream_found c.self.inside.by_number.entries c.args.number c.in-Some.stream.now c.in-Some.ensures.value)
    (rw (← c.self.view_is) at c.requires)

pub returns : goal.returns
returns c = elim c.match-get_mut.branch [
  | in-Some w ↦ stream_written c.args.self.now _ c.self.inside.by_number
      (c.get_mut.follows.lender w.mark_decoded.new.self) c.args.number w.in-Some.stream.now w.mark_decoded.new.self
      (decoded_with c.args.required) c.self.view_is (sym (ap (λ i. i.by_number.entries) w.self-inside-is))
      w.in-Some.ensures.value w.mark_decoded.ensures (c.get_mut.follows.holds w.mark_decoded.new.self)
  | in_default w ↦ absurd (none_undecoded _
      (stream_missing c.self.inside.by_number.entries c.args.number w.in_default.ensures.value)
      (rw (← c.self.view_is) at c.requires))
]
