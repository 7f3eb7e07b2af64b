use Rattle.std.proofs.lemmas.Result.{err_from_is_err_and}
use Rattle.qpk.proofs.Writes.{some_more, stops_later}
use Rattle.qpk.proofs.serve.write_pieces.Goals.{else-loop-test, then-loop-test+in_ok-write_piece+then-branch}
use Rattle.qpk.proofs.serve.write_pieces.Goals as goal

pub returns-in_err-write_piece-clause-refused : goal.returns-in_err-write_piece-clause-refused
returns-in_err-write_piece-clause-refused g c =
    let p = err_from_is_err_and c.from_residual.result c.from_residual.ensures.1 in
    rw (p.1, p.2) (stops_later _ _ _ _ c.loop.invariant c.in_err-write_piece.ensures.refused)

pub loop-preserved : goal.loop-preserved
loop-preserved g c = some_more _ _ _ c.loop.invariant c.in_ok-write_piece.ensures.written

pub returns-clause-written : goal.returns-clause-written
returns-clause-written g c =
    elim c.loop-test.branch [
      | else-loop-test w ↦ rw w.output-is c.loop.invariant
      | then-loop-test+in_ok-write_piece+then-branch w ↦ rw w.output-is
          (some_more _ _ _ c.loop.invariant w.in_ok-write_piece.ensures.written)
    ]
