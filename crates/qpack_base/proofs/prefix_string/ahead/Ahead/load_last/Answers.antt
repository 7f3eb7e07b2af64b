use Rattle.std.proofs.Common.{◌≡◌, ℕ, ◌+◌, ◌-◌, ◌*◌, ◌/◌, ◌%◌, ◌^◌, ◌<◌, List, ◌∷◌, ◌++◌, arith, ap, sym, ◌∙◌}
use Rattle.qpack_spec.specs.Huffman.{bits_of, bits_of_bytes}
use Rattle.qpack_base.proofs.LoadedBits.{load_one}
use Rattle.qpack_base.proofs.HighBits.{loads_more}
use Rattle.qpack_base.proofs.prefix_string.ahead.Ahead.load_last.Goals as goal

pub overflow_add-ahead : goal.overflow_add-ahead
overflow_add-ahead c =
    let a = c.loop-first.ahead in
    let inv = c.loop-first.invariant in
    let next = c.in-Some.ensures.cases in
    let byte : c.from.result < 256 = omega arith in
    let more = loads_more a.loaded a.count 8 c.from.result (c.from.result * 72057594037927936 % 18446744073709551616)
    (omega (arith, inv.few, next.1)) inv.small inv.ahead.zeros byte (omega arith) in
    omega (arith, more.small)

pub loop-first-preserved : goal.loop-first-preserved
loop-first-preserved c =
    let a = c.loop-first.ahead in
    let inv = c.loop-first.invariant in
    let next = c.in-Some.ensures.cases in
    let byte : c.from.result < 256 = omega arith in
    let more = loads_more a.loaded a.count 8 c.from.result (c.from.result * 72057594037927936 % 18446744073709551616)
    (omega (arith, inv.few, next.1)) inv.small inv.ahead.zeros byte (omega arith) in
    let number = a.loaded / 2 ^ (64 - a.count) in
    let rest = c.in-Some.rest.now in
    let first : a.rest.now ≡ c.from.result ∷ rest = next.0
    ∙ ap (λ (b : ℕ). b ∷ rest) (sym c.from.ensures) in record {
      left = ap (λ (n : ℕ). bits_of (a.count + 8) n ++ bits_of_bytes rest) more.number
          ∙ load_one a.count number c.from.result rest byte
          ∙ ap (λ (l : List ℕ). bits_of a.count number ++ bits_of_bytes l) (sym first) ∙ inv.left;
      ahead = record { few = omega (arith, inv.few, next.1); zeros = more.zeros };
      small = more.small;
      few = omega (arith, inv.few, next.1);
    }
