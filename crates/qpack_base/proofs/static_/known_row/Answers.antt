use Rattle.std.proofs.Common.{arith}
use Rattle.qpack_base.proofs.StaticRows.{row_there}
use Rattle.qpack_base.proofs.static_.known_row.Goals as goal

pub returns-then-index-lt25 : goal.returns-then-index-lt25
returns-then-index-lt25 c =
    row_there c.rows_from_0.result.now 25 0 _ c.args.index _ c.rows_from_0.ensures (omega arith) (omega arith)
    (omega arith)

pub returns-then-index-lt50 : goal.returns-then-index-lt50
returns-then-index-lt50 c =
    row_there c.rows_from_25.result.now 25 25 _ c.args.index _ c.rows_from_25.ensures (omega arith) (omega arith)
    (omega arith)

pub returns-then-index-lt75 : goal.returns-then-index-lt75
returns-then-index-lt75 c =
    row_there c.rows_from_50.result.now 25 50 _ c.args.index _ c.rows_from_50.ensures (omega arith) (omega arith)
    (omega arith)

pub returns : goal.returns
returns c =
    row_there c.rows_from_75.result.now 24 75 _ c.args.index _ c.rows_from_75.ensures (omega arith) (omega arith)
    (omega arith)
