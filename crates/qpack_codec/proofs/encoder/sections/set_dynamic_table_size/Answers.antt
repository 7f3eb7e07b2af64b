use Rattle.std.proofs.Common.{◌∙◌, arith}
use Rattle.qpack_codec.proofs.Rooms.{capacity_most, no_err}
use Rattle.qpack_codec.proofs.encoder.sections.set_dynamic_table_size.Goals as goal

pub returns-in_err-encode-clause-sets : goal.returns-in_err-encode-clause-sets
returns-in_err-encode-clause-sets g c =
    let most = capacity_most c.args.size in
    absurd (no_err c.encode.result c.in_err-encode.field-0.0 (c.encode.ensures.writes.succeeds
    (omega (arith, c.in_ok-make_room.ensures.ok, most))) c.in_err-encode.was)

pub returns-in_err-encode-clause-memory : goal.returns-in_err-encode-clause-memory
returns-in_err-encode-clause-memory g c =
    let most = capacity_most c.args.size in
    absurd (no_err c.encode.result c.in_err-encode.field-0.0 (c.encode.ensures.writes.succeeds
    (omega (arith, c.in_ok-make_room.ensures.ok, most))) c.in_err-encode.was)

pub returns-in_err-encode-clause-still : goal.returns-in_err-encode-clause-still
returns-in_err-encode-clause-still g c fits =
    c.encode.ensures.writes.still (omega (arith, c.in_ok-make_room.ensures.ok, capacity_most c.args.size))
    ∙ c.make_room.ensures.still fits

pub returns-clause-still : goal.returns-clause-still
returns-clause-still g c fits =
    c.encode.ensures.writes.still (omega (arith, c.in_ok-make_room.ensures.ok, capacity_most c.args.size))
    ∙ c.make_room.ensures.still fits
