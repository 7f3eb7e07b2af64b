use Rattle.std.proofs.Common.{arith}
use Rattle.qpk_qif.specs.Lists.{lists_of}
use Rattle.qpk_qif.proofs.ReadLists.{goes_on, ends}
use Rattle.qpk_qif.proofs.lists.read_lists.Goals as goal

pub loop-rest-preserved : goal.loop-rest-preserved
loop-rest-preserved c = (
  goes_on c.loop-rest.lists c.take.new.self c.loop-rest.number c.loop-rest.rest.now c.split_line.result.0.now
      c.split_line.result.1.now c.in_ok-line.line (lists_of c.args.text.now) c.loop-rest.invariant.0
      c.split_line.ensures.lines c.in_ok-line.ensures c.in_ok-take.ensures,
  omega (arith, c.loop-rest.invariant.1, c.split_line.ensures.shorter),
)

pub returns : goal.returns
returns c =
    ends c.loop-rest.lists c.loop-rest.number c.loop-rest.rest.now c.in_ok-finish.field-0.items
    (lists_of c.args.text.now) (grind arith) c.loop-rest.invariant.0 c.in_ok-finish.ensures
