use Rattle.std.proofs.Common.{length, length-append, ap, refl, arith, rules}
use Rattle.std.specs.Int.{w64, from_be_bytes}
use Rattle.qpk_qif.proofs.RecordBytes.{stands, is_record, is_cut}
use Rattle.qpk_qif.proofs.recording.split_record.Goals as goal

pub returns-then-rest-size-clause-only : goal.returns-then-rest-size-clause-only
returns-then-rest-size-clause-only c stream bytes rest small short is =
    let r = is_record c.args.input.now c.in_ok-stream.stream.now c.in_ok-stream.rest.now c.in_ok-size.size.now
    c.in_ok-size.rest.now (from_be_bytes w64 c.in_ok-stream.stream.now) c.from_be_bytes-size.result
    c.in_ok-stream.ensures.cases.0 c.in_ok-stream.ensures.cases.1 c.in_ok-size.ensures.cases.0
    c.in_ok-size.ensures.cases.1 refl c.from_be_bytes-size.ensures stream bytes rest small short is in
    omega (arith, ap length r.behind_is, length-append bytes rest, r.length_is, c.if-rest-size.true)

pub returns-clause-found : goal.returns-clause-found
returns-clause-found c =
    stands c.args.input.now c.in_ok-stream.stream.now c.in_ok-stream.rest.now c.in_ok-size.size.now
    c.in_ok-size.rest.now c.split_at.result.0.now c.split_at.result.1.now c.from_be_bytes-stream.result
    c.from_be_bytes-size.result (search rules) c.in_ok-stream.ensures.cases.0 c.in_ok-stream.ensures.cases.1
    c.in_ok-size.ensures.cases.0 c.in_ok-size.ensures.cases.1 (omega (arith, c.in_ok-stream.ensures.cases.2))
    (omega (arith, c.in_ok-size.ensures.cases.2)) c.from_be_bytes-stream.ensures c.from_be_bytes-size.ensures
    c.if-rest-size.false c.split_at.ensures.front c.split_at.ensures.back

pub returns-clause-only : goal.returns-clause-only
returns-clause-only c stream bytes rest small short is =
    is_cut stream bytes rest c.from_be_bytes-stream.result c.from_be_bytes-size.result c.in_ok-size.rest.now
    c.split_at.result.0.now c.split_at.result.1.now
    (is_record c.args.input.now c.in_ok-stream.stream.now c.in_ok-stream.rest.now c.in_ok-size.size.now
    c.in_ok-size.rest.now c.from_be_bytes-stream.result c.from_be_bytes-size.result c.in_ok-stream.ensures.cases.0
    c.in_ok-stream.ensures.cases.1 c.in_ok-size.ensures.cases.0 c.in_ok-size.ensures.cases.1
    c.from_be_bytes-stream.ensures c.from_be_bytes-size.ensures stream bytes rest small short is)
    c.split_at.ensures.front c.split_at.ensures.back
