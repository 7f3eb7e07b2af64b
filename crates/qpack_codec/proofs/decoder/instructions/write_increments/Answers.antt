use Rattle.std.proofs.Common.{◌≡◌, ℕ, ◌-◌, take, length, ap, sym, ◌∙◌, arith, rules}
use Rattle.qpack_codec.proofs.Increments.{reported_none, reported_more, reported_all, reported_refused, ok_of}
use Rattle.qpack_codec.proofs.decoder.instructions.write_increments.Goals as goal

pub loop-rest-init : goal.loop-rest-init
loop-rest-init g c = reported_none _ _

pub returns-then-is_err-clause-writes : goal.returns-then-is_err-clause-writes
returns-then-is_err-clause-writes g c =
    let len : c.len-len.result ≡ length c.args.buf.now.items = search rules in
    let least = c.min-piece.ensures in
    reported_refused c.args.insertions c.loop-rest.rest (c.loop-rest.rest - c.min-piece.result) c.min-piece.result
    c.args.buf.now c.loop-rest.buf c.encode.new.buf c.truncate.new.self c.encode.result _ c.loop-rest.invariant
    (omega (arith, c.loop-rest-test.true)) least (omega (arith, least)) c.encode.ensures.writes
    (sym c.is_err.ensures.value ∙ c.if-is_err.true)
    (c.truncate.ensures.items ∙ ap (λ (n : ℕ). take n c.encode.new.buf.items) len) c.truncate.ensures.capacity

pub returns-then-is_err-clause-memory : goal.returns-then-is_err-clause-memory
returns-then-is_err-clause-memory g c =
    let within = c.loop-rest.invariant.within in omega (arith, within, c.loop-rest-test.true)

pub loop-rest-preserved : goal.loop-rest-preserved
loop-rest-preserved g c =
    let least = c.min-piece.ensures in
    let wrote = c.encode.ensures.writes in
    reported_more c.args.insertions c.loop-rest.rest (c.loop-rest.rest - c.min-piece.result) c.min-piece.result
    c.args.buf.now c.loop-rest.buf c.encode.new.buf c.loop-rest.invariant (omega (arith, c.loop-rest-test.true)) least
    (omega (arith, least))
    (ok_of c.encode.result _ wrote.ok (sym c.is_err.ensures.value ∙ c.if-is_err.false)) wrote.still wrote.capacity

pub returns-clause-writes : goal.returns-clause-writes
returns-clause-writes g c =
    reported_all c.args.insertions c.loop-rest.rest _ c.loop-rest.buf c.loop-rest.invariant
    (omega (arith, c.loop-rest-test.false))
