use Rattle.qpack_shared.proofs.SentBytes.{appends}
use Rattle.qpack_decoding.proofs.unsent.write_acknowledgment.Goals as goal

pub returns : goal.returns
returns c =
    rw (← c.unsent.view_is) (appends c.unsent.inside.sent _ c.unsent.inside.bytes c.ack_header.new.decoder c.ack_header.result
    c.unsent.inside.bytes.ok.0 c.unsent.invariant c.ack_header.ensures.writes)
