use Rattle.qpack_wire.specs.BlockLines.{line_at}
use Rattle.qpk_show.proofs.Faults.{line_unreadable}
use Rattle.qpk_show.proofs.section.decode_line.Goals as goal

pub returns-in-Err : goal.returns-in-Err
returns-in-Err c =
    record {
      exact = rw c.unreadable.ensures (line_unreadable c.in-Err.e (line_at c.args.buf.now.rest) c.in-Err.ensures.exact);
    }
