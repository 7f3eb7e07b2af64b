use Rattle.std.proofs.Common.{◌≡◌, ◌*◌, arith}
use Rattle.qpack_table.proofs.Products.{product_below}
use Rattle.qpack_table.proofs.dynamic.index.hash.fold_product.Goals as goal

pub overflow_mul-product : goal.overflow_mul-product
overflow_mul-product c =
    let same : c.from.result * c.from-2.result ≡ c.args.a * c.args.b = λ i. c.from.ensures i * c.from-2.ensures i in
    omega (arith, product_below c.args.a c.args.b c.ranges.a.fits c.ranges.b.fits, same)

pub overflow_cast-result-2 : goal.overflow_cast-result-2
overflow_cast-result-2 c =
    let same : c.from.result * c.from-2.result ≡ c.args.a * c.args.b = λ i. c.from.ensures i * c.from-2.ensures i in
    omega (arith, product_below c.args.a c.args.b c.ranges.a.fits c.ranges.b.fits, same)
