use Rattle.qpack_codec.proofs.DraftedBlocks.{stops_ungathered}
use Rattle.qpack_codec.proofs.encoder.sections.encode_items.Goals as goal

pub returns-in-Err-clause-err : goal.returns-in-Err-clause-err
returns-in-Err-clause-err g c =
    stops_ungathered g.H.AsField.line g.T.Iterator.next_gives c.args.fields
    (g.D.WritesSections.table c.args.table.now) (g.D.WritesSections.table c.give_up.new.self)
    c.args.encoder_buf.now.items c.give_up.ensures
