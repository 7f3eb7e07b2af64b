use Rattle.std.proofs.Common.{subst, sym, refl, Ok, Err, Result}
use Rattle.std.specs.Prelude.{⊤}
use Rattle.qpack_encoding.specs.contracts.encoder.ConnectionEncoder.{the_view}
use Rattle.qpack_encoding.specs.Encoders.{EncodingEnd}
use Rattle.qpack_encoding.specs.Hearing.{Receives, ReceivesMore}
use Rattle.qpack_encoding.specs.declared.decoder_stream.DecoderStreamError.{DecoderStreamError}
use Rattle.qpack_encoding.proofs.BareEnds.{received_bare, refused_bare}
use Rattle.qpack_encoding.proofs.Encoders.{received_sound, refused_sound, received_tracks, refused_tracks, HearsAll}
use Rattle.qpack_encoding.proofs.encoder.ConnectionEncoder.receive.Goals as goal

pub invariant_of-self : goal.invariant_of-self
invariant_of-self c =
    let d : EncodingEnd = the_view c.self.inside in
    let t = c.receive-received.new.table in
    let s = c.receive-received.new.self in
    let bytes = c.args.buf.now.rest in
    let hears : HearsAll d t s bytes (Ok tt) =
    λ heard before k. subst (λ (r : Result ⊤ DecoderStreamError). ReceivesMore d.table t heard before bytes s r) c.in-Ok.is
    (c.receive-received.ensures.receives heard before k) in (
      received_sound d t s bytes c.self.invariant.0 c.in_default.is hears,
      received_tracks d t s bytes c.self.inside.at_risk.streams.items c.keep_open.new.self.streams.items
          c.self.invariant.0 c.in_default.is hears c.keep_open.ensures c.self.invariant.1,
      λ zero. received_bare d t s bytes c.self.invariant.0 c.in_default.is hears (c.self.invariant.2 zero),
    )

pub invariant_of-self-in-Err : goal.invariant_of-self-in-Err
invariant_of-self-in-Err c =
    let d : EncodingEnd = the_view c.self.inside in
    let t = c.receive-received.new.table in
    let s = c.receive-received.new.self in
    let bytes = c.args.buf.now.rest in
    let hears : HearsAll d t s bytes (Err c.in-Err.error) =
    λ heard before k. subst (λ (r : Result ⊤ DecoderStreamError). ReceivesMore d.table t heard before bytes s r)
    c.in-Err.is (c.receive-received.ensures.receives heard before k) in (
      refused_sound d t s bytes c.in-Err.error c.self.invariant.0 c.in_default.is hears,
      refused_tracks d t s bytes c.in-Err.error c.self.inside.at_risk.streams.items
          c.keep_open.new.self.streams.items c.self.invariant.0 c.in_default.is hears c.keep_open.ensures
          c.self.invariant.1,
      λ zero. refused_bare d t s bytes c.in-Err.error c.self.invariant.0 c.in_default.is hears
          (c.self.invariant.2 zero),
    )

pub returns-in-Err-clause-receives : goal.returns-in-Err-clause-receives
returns-in-Err-clause-receives c live heard before k =
    rw (← c.self.view_is) (
      subst (λ (r : Result ⊤ DecoderStreamError). ReceivesMore c.self.inside.table.table c.receive-received.new.table heard
          before c.args.buf.now.rest c.receive-received.new.self r) c.in-Err.is
          (c.receive-received.ensures.receives heard before
          (subst (λ (d : EncodingEnd). Receives heard before d.stream) (sym c.self.view_is) k)),
      refl,
    )
