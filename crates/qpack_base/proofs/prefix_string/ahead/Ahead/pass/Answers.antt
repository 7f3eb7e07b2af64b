use Rattle.std.proofs.Common.{arith}
use Rattle.qpack_spec.specs.Huffman.{bits_of_bytes}
use Rattle.qpack_base.proofs.HighBits.{high_of, high_fewer, high_passed, high_zeros}
use Rattle.qpack_base.proofs.prefix_string.ahead.Ahead.pass.Goals as goal

pub returns-clause-left : goal.returns-clause-left
returns-clause-left c =
    let a = c.args.self in
    let few = c.requires.ahead.few in
    let high = high_of a.loaded a.count (omega arith) (omega arith) c.requires.ahead.zeros in
    high_passed a.loaded a.count _ c.args.bits (bits_of_bytes a.rest.now) high c.requires.there

pub returns-clause-ahead : goal.returns-clause-ahead
returns-clause-ahead c =
    let a = c.args.self in
    let few = c.requires.ahead.few in
    let high = high_of a.loaded a.count (omega arith) (omega arith) c.requires.ahead.zeros in
    record {
      few = omega arith;
      zeros = high_zeros _ _ _ (high_fewer a.loaded a.count _ c.args.bits high c.requires.there);
    }
