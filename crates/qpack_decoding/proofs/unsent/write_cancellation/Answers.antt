use Rattle.qpack_shared.proofs.SentBytes.{appends}
use Rattle.qpack_decoding.proofs.unsent.write_cancellation.Goals as goal

pub returns : goal.returns
returns c =
    rw (← c.unsent.view_is) (appends c.unsent.inside.sent _ c.unsent.inside.bytes c.stream_canceled.new.decoder c.stream_canceled.result
    c.unsent.inside.bytes.ok.0 c.unsent.invariant c.stream_canceled.ensures.writes)
