use Rattle.qpack_shared.proofs.SentBytes.{appends}
use Rattle.qpack_decoding.proofs.unsent.write_increments.Goals as goal

pub returns-clause-appends : goal.returns-clause-appends
returns-clause-appends c =
    rw (← c.unsent.view_is) (appends c.unsent.inside.sent _ c.unsent.inside.bytes c.write_increments.new.buf
    c.write_increments.result c.unsent.inside.bytes.ok.0 c.unsent.invariant c.write_increments.ensures.writes)
