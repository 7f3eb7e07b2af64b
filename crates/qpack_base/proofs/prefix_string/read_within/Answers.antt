use Rattle.std.proofs.Common.{[], refl, sym, ◌∙◌}
use Rattle.qpack_base.proofs.WholePayloads.{meaning_of_no_payload, nothing_kept}
use Rattle.qpack_base.proofs.prefix_string.read_within.Goals as goal

pub returns-then-is_empty-clause-exact : goal.returns-then-is_empty-clause-exact
returns-then-is_empty-clause-exact g c = (
  [],
  meaning_of_no_payload c.args.payload.flags c.args.payload.bytes.now (sym c.is_empty.ensures ∙ c.if-is_empty.true),
  refl,
  nothing_kept c.args.most c.args.text.now.items,
)
