use Rattle.std.proofs.Common.{refl, sym, ◌∙◌}
use Rattle.qpack_encoding.proofs.StrictHearing.{zero_increment, past_insertions, raised}
use Rattle.qpack_encoding.proofs.decoder_stream.raise.Goals as goal

pub returns-then-increment-eq0 : goal.returns-then-increment-eq0
returns-then-increment-eq0 g c = (zero_increment c.args.table.now c.args.increment c.if-increment-eq0.true, refl)

pub returns-then-is_past_insertions : goal.returns-then-is_past_insertions
returns-then-is_past_insertions g c = (
  past_insertions c.args.table.now c.args.increment c.if-increment-eq0.false
      (sym c.is_past_insertions.ensures ∙ c.if-is_past_insertions.true),
  refl,
)

pub returns : goal.returns
returns g c =
    raised c.args.table.now c.update_largest_received.new.self c.args.increment c.if-increment-eq0.false
    (sym c.is_past_insertions.ensures ∙ c.if-is_past_insertions.false) c.update_largest_received.ensures
