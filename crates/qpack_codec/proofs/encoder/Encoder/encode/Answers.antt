use Rattle.std.proofs.Common.{subst}
use Rattle.std.specs.Prelude.{IfOk, OnErr}
use Rattle.qpack_spec.specs.Table.{Table}
use Rattle.qpack_base.specs.HeaderFields.{DrainsFields}
use Rattle.qpack_codec.specs.Encoding.{EncodesBlock, StopsEncoding}
use Rattle.qpack_codec.proofs.MarkedFields.{if_ok_encodes, on_err_stops_unmarked}
use Rattle.qpack_codec.proofs.encoder.Encoder.encode.Goals as goal

pub returns-clause-ok : goal.returns-clause-ok
returns-clause-ok g c =
    subst (λ (t : Table). IfOk c.encode_items.result (λ required. DrainsFields g.T.Iterator.next_gives c.args.fields
    (λ fs. EncodesBlock c.args.stream_id fs t (g.D.WritesSections.table c.encode_items.new.table)
    c.args.block.now.items c.encode_items.new.block.items c.args.encoder_buf.now.items
    c.encode_items.new.encoder_buf.items required))) c.self.view_is
    (if_ok_encodes c.encode_items.result g.T.Iterator.next_gives c.args.fields c.args.stream_id _ _
    c.args.block.now.items c.encode_items.new.block.items c.args.encoder_buf.now.items
    c.encode_items.new.encoder_buf.items c.encode_items.ensures.ok)

pub returns-clause-err : goal.returns-clause-err
returns-clause-err g c =
    subst (λ (t : Table). OnErr c.encode_items.result (StopsEncoding g.T.Iterator.next_gives c.args.fields t
    (g.D.WritesSections.table c.encode_items.new.table) c.args.encoder_buf.now.items
    c.encode_items.new.encoder_buf.items)) c.self.view_is
    (on_err_stops_unmarked c.encode_items.result g.T.Iterator.next_gives c.args.fields _ _
    c.args.encoder_buf.now.items c.encode_items.new.encoder_buf.items c.encode_items.ensures.err)
