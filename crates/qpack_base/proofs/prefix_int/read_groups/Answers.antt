use Rattle.std.proofs.Common.{arith, ◌∙◌}
use Rattle.std.proofs.lemmas.Result.{err_from_is_err_and}
use Rattle.qpack_base.proofs.Groups.{ends_early, ends_here, goes_on, overflows, next_weight, weight_fits, sum_fits}
use Rattle.qpack_base.proofs.prefix_int.read_groups.Goals as goal

pub returns-in_err-get-clause-exact : goal.returns-in_err-get-clause-exact
returns-in_err-get-clause-exact c =
    let p = err_from_is_err_and c.from_residual.result c.from_residual.ensures.1 in
    rw (p.1, p.2)
    (ends_early c.loop.counter c.loop.sum c.loop.weight c.loop.buf.rest _ c.loop-test.true c.loop.invariant.read
    c.in_err-get.ensures.0)

pub overflow_mul-sum : goal.overflow_mul-sum
overflow_mul-sum c =
    let w = weight_fits c.loop.counter c.loop.weight c.loop-test.true c.loop.invariant.weight in
    omega (arith, sum_fits c.loop.sum c.loop.weight c.from-byte.result c.loop.invariant.sum, w)

pub overflow_add-sum : goal.overflow_add-sum
overflow_add-sum c =
    let w = weight_fits c.loop.counter c.loop.weight c.loop-test.true c.loop.invariant.weight in
    omega (arith, sum_fits c.loop.sum c.loop.weight c.from-byte.result c.loop.invariant.sum, w)

pub returns-then-byte-lt128-clause-exact : goal.returns-then-byte-lt128-clause-exact
returns-then-byte-lt128-clause-exact c =
    let read = c.in_ok-get.ensures in (
      ends_here c.loop.counter c.loop.sum c.loop.weight c.from-byte.result c.loop.buf.rest c.get.new.self.rest _
          c.loop-test.true c.loop.invariant.read (rw c.from-byte.ensures read.0) c.if-byte-lt128.true,
      read.1 ∙ c.loop.invariant.total,
    )

pub returns-then-byte-lt128-clause-small : goal.returns-then-byte-lt128-clause-small
returns-then-byte-lt128-clause-small c =
    let w = weight_fits c.loop.counter c.loop.weight c.loop-test.true c.loop.invariant.weight in
    omega (arith, sum_fits c.loop.sum c.loop.weight c.from-byte.result c.loop.invariant.sum, w)

pub overflow_mul-weight : goal.overflow_mul-weight
overflow_mul-weight c = omega (arith, weight_fits c.loop.counter c.loop.weight c.loop-test.true c.loop.invariant.weight)

pub loop-preserved : goal.loop-preserved
loop-preserved c =
    let read = c.in_ok-get.ensures in record {
      read = goes_on c.loop.counter c.loop.sum c.loop.weight c.from-byte.result c.loop.buf.rest c.get.new.self.rest _
          c.loop-test.true c.loop.invariant.read (rw c.from-byte.ensures read.0) c.if-byte-lt128.false;
      total = read.1 ∙ c.loop.invariant.total;
      weight = next_weight c.loop.counter c.loop.weight c.loop.invariant.weight;
      sum = sum_fits c.loop.sum c.loop.weight c.from-byte.result c.loop.invariant.sum;
    }

pub returns-clause-exact : goal.returns-clause-exact
returns-clause-exact c =
    overflows c.loop.counter c.loop.sum c.loop.weight c.loop.buf.rest _ c.loop-test.false c.loop.invariant.read
