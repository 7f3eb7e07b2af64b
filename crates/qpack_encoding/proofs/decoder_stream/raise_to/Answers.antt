use Rattle.std.proofs.Common.{◌≡◌, ◌-◌, rules}
use Rattle.qpack_encoding.proofs.StrictHearing.{raised_to}
use Rattle.qpack_encoding.proofs.decoder_stream.raise_to.Goals as goal

pub returns : goal.returns
returns g c =
    let less : c.saturating_sub-missing.result ≡ c.args.count - c.args.table.now.known_received_count = search rules in
    raised_to c.args.table.now c.update_largest_received.new.self c.args.count c.saturating_sub-missing.result less
    c.update_largest_received.ensures
