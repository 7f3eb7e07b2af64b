use Rattle.std.proofs.Common.{arith, ◌≡◌, ◌∙◌, refl, sym, subst, ap, Result, Ok, Err}
use Rattle.std.specs.Prelude.{⊤}
use Rattle.qpack_decoding.specs.declared.decoder.DecodingError.TheVariants.{Memory}
use Rattle.qpack_decoding.specs.declared.encoder_stream.EncoderStreamError.{EncoderStreamError}
use Rattle.qpack_spec.specs.Table.{insert_count}
use Rattle.qpack_decoding.specs.Decoders.{DecodingEnd, DecoderView, end_of, ReceivesBytes}
use Rattle.qpack_decoding.specs.Receiving.{Receives, AsksToReceive}
use Rattle.qpack_decoding.proofs.AskingToReceive.{memory_of_stream}
use Rattle.qpack_decoding.proofs.Decoders.{stream_refused, stream_taken}
use Rattle.qpack_decoding.proofs.BlockedStreams.{fewer_blocked}
use Rattle.qpack_decoding.proofs.decoder.ConnectionDecoder.receive.Goals as goal

pub returns-in-Err-clause-receives : goal.returns-in-Err-clause-receives
returns-in-Err-clause-receives c live start before k =
    subst (λ (d : DecoderView). ReceivesBytes start before (end_of d) (end_of c.refuse.new.self) c.args.buf.now.rest
    c.receive.new.buf.rest (Err c.refuse.result)) c.self.view_is
    (stream_refused start before c.args.buf.now.rest c.receive.new.buf.rest _ (end_of c.refuse.new.self)
    c.receive.new.table c.receive.new.self c.in-Err.error c.refuse.result
    (c.in-Err.ensures.receives start before
    (subst (λ (d : DecoderView). Receives start d.table before d.stream) (sym c.self.view_is) k))
    (c.refuse.ensures.is ∙ c.of_stream.ensures)
    (rw c.refuse.ensures.is c.refuse.ensures.ends))

pub returns-in-Ok-clause-receives : goal.returns-in-Ok-clause-receives
returns-in-Ok-clause-receives c live start before k =
    let new : DecodingEnd = record {
      settings = c.self.inside.settings;
      table = c.receive.new.table;
      stream = c.receive.new.self;
      reported = c.self.inside.reported;
      blocked = c.self.inside.blocked;
      unsent = c.self.inside.unsent.bytes;
      failure = c.self.inside.failure;
    } in
    subst (λ (d : DecoderView). ReceivesBytes start before (end_of d) new c.args.buf.now.rest c.receive.new.buf.rest
    (Ok c.total_inserted.result)) c.self.view_is
    (stream_taken start before c.args.buf.now.rest c.receive.new.buf.rest _ new c.receive.new.table c.receive.new.self
    c.total_inserted.result
    (c.in-Ok.ensures.receives start before
    (subst (λ (d : DecoderView). Receives start d.table before d.stream) (sym c.self.view_is) k)) refl
    c.total_inserted.ensures)

pub invariant_of-self : goal.invariant_of-self
invariant_of-self c =
    let fewer = fewer_blocked (insert_count c.self.inside.table) (insert_count c.receive.new.table)
    c.self.inside.blocked c.in-Ok.ensures.grows in
    let within = c.self.invariant.blocked in
    record { blocked = omega (arith, fewer, within); failure = c.self.invariant.failure }

pub invariant_of-self-in-Err : goal.invariant_of-self-in-Err
invariant_of-self-in-Err c =
    let fewer = fewer_blocked (insert_count c.self.inside.table) (insert_count c.receive.new.table)
    c.self.inside.blocked c.in-Err.ensures.grows in
    let within = c.self.invariant.blocked in
    record { blocked = omega (arith, fewer, within); failure = c.self.invariant.failure }

pub returns-in-Err-clause-memory : goal.returns-in-Err-clause-memory
returns-in-Err-clause-memory c e =
    let failed : c.refuse.result ≡ Memory = cc in
    subst (λ (d : DecodingEnd). AsksToReceive d.table c.receive.new.buf.rest d.stream) (sym c.refuse.ensures.ends)
    (c.in-Err.ensures.memory
    (ap (λ (x : EncoderStreamError). let r : Result ⊤ EncoderStreamError = Err x in r)
    (memory_of_stream c.in-Err.error (sym c.of_stream.ensures ∙ sym c.refuse.ensures.is ∙ failed))))
