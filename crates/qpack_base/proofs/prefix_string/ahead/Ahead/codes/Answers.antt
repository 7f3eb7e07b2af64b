use Rattle.std.proofs.Common.{◌-◌, ◌/◌, ◌^◌, arith}
use Rattle.qpack_base.proofs.HighBits.{high_of}
use Rattle.qpack_base.proofs.WholeCodes.{pair_begins}
use Rattle.qpack_base.proofs.prefix_string.ahead.Ahead.codes.Goals as goal

pub returns-clause-begins : goal.returns-clause-begins
returns-clause-begins c =
    let a = c.args.self in
    let few = c.requires.few in
    let high = high_of a.loaded a.count (omega arith) (omega arith) c.requires.zeros in
    pair_begins a.loaded a.count (a.loaded / 2 ^ (64 - a.count)) c.codes_of-codes.result c.pairs.result.now high
    (omega arith) (omega arith) (omega arith) c.pairs.ensures c.codes_of-codes.ensures.bits
    c.codes_of-codes.ensures.bytes
