use Rattle.std.proofs.Common.{sym, arith}
use Rattle.qpack_table.proofs.Greatest.{greatest_none, greatest_more}
use Rattle.qpack_table.proofs.dynamic.block.greatest_in.Goals as goal

pub loop-number-init : goal.loop-number-init
loop-number-init c = sym greatest_none

pub loop-number-preserved : goal.loop-number-preserved
loop-number-preserved c = greatest_more _ _ c.loop-number.number-index c.args.numbers.now c.loop-number.invariant
    (omega arith) c.max-greatest.ensures
