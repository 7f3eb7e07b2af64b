use Rattle.std.proofs.Common.{subst, ℕ, List}
use Rattle.qpack_encoding.specs.Hearing.{ReceivesMore}
use Rattle.qpack_encoding.proofs.decoder_stream.DecoderStream.receive.Goals as goal

pub returns-clause-receives : goal.returns-clause-receives
returns-clause-receives g c heard before k =
    subst
    (λ (x : List ℕ). ReceivesMore c.args.table.now c.receive_bytes-received.new.table heard before x
    c.receive_bytes-received.new.self c.receive_bytes-received.result) c.chunk.ensures
    (c.receive_bytes-received.ensures heard before k)
