use Rattle.std.proofs.Common.{[], sym, ◌∙◌, append-nil}
use Rattle.qpack_base.proofs.WholePayloads.{meaning_of_no_payload}
use Rattle.qpack_base.proofs.prefix_string.read_payload.Goals as goal

pub returns-then-is_empty-clause-exact : goal.returns-then-is_empty-clause-exact
returns-then-is_empty-clause-exact g c = (
  [],
  meaning_of_no_payload c.args.payload.flags c.args.payload.bytes.now (sym c.is_empty.ensures ∙ c.if-is_empty.true),
  sym (append-nil c.args.text.now.items),
)
