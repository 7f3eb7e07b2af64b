use Rattle.std.proofs.Common.{◌≡◌, ◌∷◌, ◌++◌, [], ap, map, ◌∙◌, arith, inr}
use Rattle.std.proofs.lemmas.Result.{err_from_is_err_and}
use Rattle.qpack_wire.specs.BlockLines.{line_of}
use Rattle.qpack_wire.specs.Blocks.{lines_of}
use Rattle.qpack_wire.proofs.Asking.{asks_held, asks_begun, asks_line}
use Rattle.qpack_wire.proofs.ReadBlocks.{lines_end, turn_bad, turn_good, lines_more, line_begun}
use Rattle.qpack_wire.proofs.block.section.read_lines.Goals as goal

pub returns-in_err-line-clause-exact : goal.returns-in_err-line-clause-exact
returns-in_err-line-clause-exact c =
    let p = err_from_is_err_and c.from_residual.result c.from_residual.ensures.1 in
    let inv = c.loop-alloc.invariant.lines in
    rw (p.1, p.2)
    (turn_bad inv.0 c.loop-alloc.buf.rest (lines_of c.loop-alloc.lines) _ c.in_err-line.field-0.0 inv.1 inv.2
    (omega (arith, c.remaining.ensures, c.loop-alloc-test.true)) c.in_err-line.ensures.exact)

pub returns-in_err-line-clause-memory : goal.returns-in_err-line-clause-memory
returns-in_err-line-clause-memory c e =
    let p = err_from_is_err_and c.from_residual.result c.from_residual.ensures.1 in
    asks_begun c.args.buf.now.rest c.loop-alloc.buf.rest c.loop-alloc.invariant.begun
    (asks_line c.loop-alloc.buf.rest (c.in_err-line.ensures.memory (let s = p.1 in let t = p.2 in cc)))

pub returns-in_err-push-clause-memory : goal.returns-in_err-push-clause-memory
returns-in_err-push-clause-memory c e =
    asks_held c.args.buf.now.rest
    (line_begun c.args.buf.now.rest c.loop-alloc.buf.rest (line_of c.in_ok-line.line) c.decode.new.buf.rest
    c.loop-alloc.invariant.begun c.in_ok-line.ensures.exact.0)

pub loop-alloc-smaller : goal.loop-alloc-smaller
loop-alloc-smaller c =
    let inv = c.loop-alloc.invariant.lines in
    (turn_good inv.0 c.loop-alloc.buf.rest (lines_of c.loop-alloc.lines) _ (line_of c.in_ok-line.line)
    c.decode.new.buf.rest inv.1 inv.2 (omega (arith, c.remaining.ensures, c.loop-alloc-test.true))
    c.in_ok-line.ensures.exact.0).shorter

pub loop-alloc-preserved : goal.loop-alloc-preserved
loop-alloc-preserved c =
    let inv = c.loop-alloc.invariant.lines in
    let goes = turn_good inv.0 c.loop-alloc.buf.rest (lines_of c.loop-alloc.lines) _ (line_of c.in_ok-line.line)
    c.decode.new.buf.rest inv.1 inv.2 (omega (arith, c.remaining.ensures, c.loop-alloc-test.true))
    c.in_ok-line.ensures.exact.0 in
    let more : lines_of c.push.new.self ≡ lines_of c.loop-alloc.lines ++ line_of c.in_ok-line.line ∷ [] =
    ap (map line_of) c.in_ok-push.ensures.items ∙ lines_more c.loop-alloc.lines.items c.in_ok-line.line in
    record {
      lines = rw more goes.next;
      begun = inr (line_begun c.args.buf.now.rest c.loop-alloc.buf.rest (line_of c.in_ok-line.line)
          c.decode.new.buf.rest c.loop-alloc.invariant.begun c.in_ok-line.ensures.exact.0);
    }

pub returns-clause-exact : goal.returns-clause-exact
returns-clause-exact c =
    let inv = c.loop-alloc.invariant.lines in
    lines_end inv.0 c.loop-alloc.buf.rest (lines_of c.loop-alloc.lines) _ inv.2
    (omega (arith, c.remaining.ensures, c.loop-alloc-test.false))
