use Rattle.std.proofs.Common.{refl, sym, ◌∙◌, ◌++◌, arith}
use Rattle.std.proofs.lemmas.Result.{err_from_is_err_and}
use Rattle.qpack_decoding.proofs.ReceivedStreams.{none_in, takes_on, fails_on, front_on, front_is_all, more_on, nothing_waits}
use Rattle.qpack_decoding.proofs.encoder_stream.EncoderStream.receive_bytes.Goals as goal

pub loop-self-init : goal.loop-self-init
loop-self-init g c = record {
  taken = λ start before k. none_in start c.args.table.now before c.args.buf.now.rest c.args.self.now k;
  grows = omega arith;
  total = refl;
}

pub loop-self-preserved : goal.loop-self-preserved
loop-self-preserved g c = record {
  taken = λ start before k.
      let t = c.loop-self.invariant.taken start before k in
      takes_on start c.loop-self.table c.receive_front.new.table before c.args.buf.now.rest c.loop-self.buf.rest
      c.receive_front.new.buf.rest c.args.self.now c.loop-self.self c.receive_front.new.self t
      (c.in_ok-receive_front.ensures.receives start (before ++ t.taken) t.stream).0;
  grows = omega (arith, c.loop-self.invariant.grows, c.in_ok-receive_front.ensures.grows);
  total = c.in_ok-receive_front.ensures.total ∙ c.loop-self.invariant.total;
}

pub returns-in_err-receive_front-clause-receives : goal.returns-in_err-receive_front-clause-receives
returns-in_err-receive_front-clause-receives g c start before k =
    let p = err_from_is_err_and c.from_residual.result c.from_residual.ensures.1 in
    let t = c.loop-self.invariant.taken start before k in
    rw (p.1, p.2)
    (fails_on start c.loop-self.table c.receive_front.new.table before c.args.buf.now.rest c.loop-self.buf.rest
    c.receive_front.new.buf.rest c.args.self.now c.loop-self.self c.receive_front.new.self _ t
    (c.in_err-receive_front.ensures.receives start (before ++ t.taken) t.stream))

pub returns-then-remaining-eq0-clause-receives : goal.returns-then-remaining-eq0-clause-receives
returns-then-remaining-eq0-clause-receives g c start before k =
    let t = c.loop-self.invariant.taken start before k in
    front_is_all start c.args.table.now c.receive_front.new.table before c.args.buf.now.rest
    c.receive_front.new.buf.rest c.args.self.now c.receive_front.new.self
    (front_on start c.loop-self.table c.receive_front.new.table before c.args.buf.now.rest c.loop-self.buf.rest
    c.receive_front.new.buf.rest c.args.self.now c.loop-self.self c.receive_front.new.self t
    (c.in_ok-receive_front.ensures.receives start (before ++ t.taken) t.stream))
    (nothing_waits c.receive_front.new.buf.rest c.remaining.result c.remaining.ensures
    (λ some. omega (arith, some, c.if-remaining-eq0.true)))

pub returns-clause-receives : goal.returns-clause-receives
returns-clause-receives g c start before k =
    let t = c.loop-self.invariant.taken start before k in
    more_on start c.args.table.now c.loop-self.table c.receive_rest.new.table before c.args.buf.now.rest c.loop-self.buf.rest
    c.receive_rest.new.buf.rest c.args.self.now c.loop-self.self c.receive_rest.new.self _ t
    (c.receive_rest.ensures.receives start (before ++ t.taken) t.stream
    (nothing_waits c.loop-self.self.pending c.waiting.result c.waiting.ensures (λ some. omega (arith, some, c.loop-self-test.false))))

pub returns-in_err-receive_front-clause-memory : goal.returns-in_err-receive_front-clause-memory
returns-in_err-receive_front-clause-memory g c e =
    let p = err_from_is_err_and c.from_residual.result c.from_residual.ensures.1 in
    c.in_err-receive_front.ensures.memory (let q = sym p.1 ∙ e in cc)
