use Rattle.std.proofs.Common.{◌∙◌, ap, length}
use Rattle.qpack_encoding.specs.Encoders.{EncodingEnd}
use Rattle.qpack_encoding.specs.Risk.{streams_at_risk}
use Rattle.qpack_encoding.proofs.Risk.{kept_count}
use Rattle.qpack_encoding.proofs.encoder.ConnectionEncoder.blocked.Goals as goal

pub returns : goal.returns
returns c =
    c.len.ensures
    ∙ kept_count c.self.inside.at_risk.streams.items c.self.inside.table.table c.self.invariant.1.streams
    ∙ ap (λ (d : EncodingEnd). length (streams_at_risk d.table)) c.self.view_is
