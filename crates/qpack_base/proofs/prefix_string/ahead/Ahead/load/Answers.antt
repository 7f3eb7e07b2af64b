use Rattle.std.proofs.Common.{◌≡◌, ℕ, ◌+◌, ◌-◌, ◌*◌, ◌/◌, ◌%◌, ◌^◌, ◌<◌, List, ◌++◌, length, take, arith, ap, ◌∙◌}
use Rattle.std.proofs.Common.{length-take-le, take-append-drop}
use Rattle.qpack_spec.specs.Huffman.{bits_of, bits_of_bytes}
use Rattle.qpack_base.proofs.LoadedBits.{IsFour, load_four}
use Rattle.qpack_base.proofs.HighBits.{loads_more}
use Rattle.qpack_base.proofs.prefix_string.ahead.Ahead.load.Goals as goal

pub overflow_add-result : goal.overflow_add-result
overflow_add-result c =
    let a = c.args.self in
    let few = c.if-self-ge32.false in
    let code : c.from.result < 4294967296 = omega (arith, c.from.ensures, c.from_be_bytes-code.type_inv) in
    let more = loads_more a.loaded a.count 32 c.from.result (c.from.result * 4294967296 % 18446744073709551616)
    (omega arith) (omega arith) c.requires.zeros code (omega arith) in
    omega (arith, more.small)

pub returns-clause-left : goal.returns-clause-left
returns-clause-left c =
    let a = c.args.self in
    let few = c.if-self-ge32.false in
    let code : c.from.result < 4294967296 = omega (arith, c.from.ensures, c.from_be_bytes-code.type_inv) in
    let more = loads_more a.loaded a.count 32 c.from.result (c.from.result * 4294967296 % 18446744073709551616)
    (omega arith) (omega arith) c.requires.zeros code (omega arith) in
    let all = a.rest.now in
    let parts = c.in-Some.ensures.cases in
    let whole : c.in-Some.code.now ++ c.in-Some.rest.now ≡ all = ap (λ (l : List ℕ). l ++ c.in-Some.rest.now) parts.0
    ∙ ap (λ (l : List ℕ). take 4 all ++ l) parts.1 ∙ take-append-drop 4 all in
    let four : IsFour c.in-Some.code.now c.from.result = record {
      four = ap (λ (l : List ℕ). length l) parts.0 ∙ length-take-le 4 all (omega (arith, parts.2));
      first = omega arith;
      second = omega arith;
      third = omega arith;
      fourth = omega arith;
      is = c.from.ensures ∙ c.from_be_bytes-code.ensures;
    } in
    ap (λ (n : ℕ). bits_of (a.count + 32) n ++ bits_of_bytes c.in-Some.rest.now) more.number
    ∙ load_four a.count (a.loaded / 2 ^ (64 - a.count)) c.from.result c.in-Some.code.now c.in-Some.rest.now four
    ∙ ap (λ (l : List ℕ). bits_of a.count (a.loaded / 2 ^ (64 - a.count)) ++ bits_of_bytes l) whole

pub returns-clause-ahead : goal.returns-clause-ahead
returns-clause-ahead c =
    let a = c.args.self in
    let few = c.if-self-ge32.false in
    let code : c.from.result < 4294967296 = omega (arith, c.from.ensures, c.from_be_bytes-code.type_inv) in
    let more = loads_more a.loaded a.count 32 c.from.result (c.from.result * 4294967296 % 18446744073709551616)
    (omega arith) (omega arith) c.requires.zeros code (omega arith) in
    record { few = omega arith; zeros = more.zeros }
