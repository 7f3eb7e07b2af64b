use Rattle.qpack_encoding.proofs.StrictHearing.{cancelled}
use Rattle.qpack_encoding.proofs.decoder_stream.apply_strictly.Goals as goal

pub returns-in-StreamCancel : goal.returns-in-StreamCancel
returns-in-StreamCancel g c =
    rw c.in-StreamCancel.is
    (cancelled c.args.table.now c.untrack_stream.new.self c.in-StreamCancel.field-0.0 c.untrack_stream.ensures)
