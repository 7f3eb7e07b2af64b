use Rattle.std.proofs.Common.{◌≡◌, ◌∙◌, ℕ, List, ap, subst, length, rules}
use Rattle.qpack_decoding.specs.Receiving.{TakesAllStrictly}
use Rattle.qpack_decoding.proofs.StrictTaking.{whole_taken}
use Rattle.qpack_decoding.proofs.encoder_stream.take_whole.Goals as goal

pub returns : goal.returns
returns g c =
    let whole : c.new-buf.result.rest ≡ c.args.pending.now.items = c.new-buf.ensures.rest ∙ c.deref.ensures.value in
    whole_taken c.args.table.now c.take_all_strictly-taken.new.table c.args.place.now
    c.take_all_strictly-taken.new.place c.args.pending.now.items c.take_all_strictly-taken.new.buf.rest _
    c.take_all_strictly-taken.result c.position-passed.result
    (subst (λ (x : List ℕ). TakesAllStrictly c.args.table.now c.take_all_strictly-taken.new.table c.args.place.now
    c.take_all_strictly-taken.new.place x c.take_all_strictly-taken.new.buf.rest c.take_all_strictly-taken.result) whole
    c.take_all_strictly-taken.ensures.takes)
    (c.position-passed.ensures ∙ c.take_all_strictly-taken.ensures.total ∙ c.new-buf.ensures.total
    ∙ ap length c.deref.ensures.value)
    (search rules)
