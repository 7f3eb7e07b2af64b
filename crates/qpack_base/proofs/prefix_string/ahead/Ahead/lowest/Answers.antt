use Rattle.std.proofs.Common.{◌^◌, ℕ, subst, sym, ◌<◌, arith}
use Rattle.qpack_base.proofs.HighBits.{high_of, one_and}
use Rattle.qpack_base.proofs.prefix_string.ahead.Ahead.lowest.Goals as goal

pub returns-clause-is : goal.returns-clause-is
returns-clause-is c = one_and c.args.self.loaded c.args.self.count c.requires.few

pub returns-clause-fits : goal.returns-clause-fits
returns-clause-fits c =
    let a = c.args.self in
    let few = c.requires.few in
    subst (λ (n : ℕ). n < 2 ^ a.count) (sym (one_and a.loaded a.count few))
    (high_of a.loaded a.count (omega arith) (omega arith) c.requires.zeros).fits
