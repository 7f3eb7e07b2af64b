use Rattle.std.proofs.Common.{◌∙◌, arith}
use Rattle.qpack_codec.proofs.Turns.{turned_more}
use Rattle.qpack_codec.proofs.encoder.sections.move_to_front.Goals as goal

pub loop-preserved : goal.loop-preserved
loop-preserved c = record {
  len = c.rotate_right-in-loop.ensures.len ∙ c.loop.invariant.len;
  moved =
      c.rotate_right-in-loop.ensures.after
      ∙ turned_more c.loop.counter c.args.bytes.now c.loop.bytes
      (omega (arith, c.requires, c.loop-test.true)) c.loop.invariant.len c.loop.invariant.moved;
}
