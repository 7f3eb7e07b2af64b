use Rattle.std.proofs.Common.{ap, ◌∙◌}
use Rattle.std.specs.Option.{unwrap_or}
use Rattle.qpack_table.specs.Tables.{refusal_of}
use Rattle.qpack_encoding.proofs.StrictHearing.{acknowledged, not_acknowledged}
use Rattle.qpack_encoding.proofs.decoder_stream.acknowledge.Goals as goal

pub returns-in-Ok : goal.returns-in-Ok
returns-in-Ok g c =
    acknowledged c.args.table.now c.untrack_block.new.self c.raise_to.new.table c.args.stream_id
    c.unwrap_or-required.result c.in-Ok.ensures
    (c.unwrap_or-required.ensures ∙ ap (λ o. unwrap_or o 0) c.oldest_required.ensures) c.raise_to.ensures

pub returns-in-Err : goal.returns-in-Err
returns-in-Err g c =
    let refused = c.in-Err.ensures in (
      not_acknowledged c.args.table.now c.args.stream_id (refusal_of c.in-Err.field-0) refused.0,
      refused.1,
    )
