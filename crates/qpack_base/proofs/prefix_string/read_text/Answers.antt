use Rattle.std.proofs.lemmas.Result.{err_from_is_err_and}
use Rattle.qpack_base.proofs.WholePayloads.{takes_memory}
use Rattle.qpack_base.proofs.prefix_string.read_text.Goals as goal

pub returns-in_err-make_text_room-clause-exact : goal.returns-in_err-make_text_room-clause-exact
returns-in_err-make_text_room-clause-exact g c =
    let p = err_from_is_err_and c.from_residual.result c.from_residual.ensures.1 in
    rw (p.1, p.2) (takes_memory c.args.payload.now c.requires, c.in_err-make_text_room.ensures.items)
