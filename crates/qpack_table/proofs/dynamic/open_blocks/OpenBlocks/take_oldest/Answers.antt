use Rattle.std.proofs.Common.{refl}
use Rattle.qpack_table.proofs.Commits.{numbered_less}
use Rattle.qpack_table.proofs.OpenBlocks.{taken_out, none_in_order}
use Rattle.qpack_table.proofs.dynamic.open_blocks.OpenBlocks.take_oldest.Goals as goal

pub returns-in_err-key-clause-none : goal.returns-in_err-key-clause-none
returns-in_err-key-clause-none c = rw c.from_residual.ensures (
  rw (← c.self.view_is)
      (none_in_order c.args.stream_id c.self.inside.opened _ c.in_err-key.ensures.none).0,
  refl,
)

pub invariant_of-self : goal.invariant_of-self
invariant_of-self c = numbered_less c.in_ok-key.key c.self.inside.opened _ _ c.self.invariant c.remove.ensures.entries

pub returns-clause-taken : goal.returns-clause-taken
returns-clause-taken c = rw (c.remove.ensures.value, c.in_ok-key.ensures.found.found)
    (taken_out c.args.stream_id c.in_ok-key.key _ c.self.inside.opened _ _ _ c.self.invariant
    c.in_ok-key.ensures.found c.remove.ensures.entries c.self.view_is)
