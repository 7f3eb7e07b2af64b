use Rattle.std.proofs.Common.{List, ℕ, ◌++◌, take, ap, sym, ◌∙◌, arith, take-append-drop}
use Rattle.qpack_spec.proofs.WrittenPayloads.{payload_length}
use Rattle.qpack_base.proofs.WrittenCodes.{sum_parts}
use Rattle.qpack_base.proofs.prefix_string.encoding.payload_len.Goals as goal

pub loop-four-preserved : goal.loop-four-preserved
loop-four-preserved c =
    let loop = c.loop-four in
    let parts = c.in-Some.ensures.cases in
    let whole = ap (λ (l : List ℕ). l ++ c.in-Some.behind.now) parts.0
    ∙ ap (λ (l : List ℕ). take 4 loop.rest.now ++ l) parts.1 ∙ take-append-drop 4 loop.rest.now in
    let sums = sum_parts loop.rest.now c.in-Some.four.now c.in-Some.behind.now (sym whole) in record {
      sum = omega (arith, loop.invariant.sum, sums, c.bits_of_four-bits.ensures.len);
      most = omega (arith, loop.invariant.most, c.bits_of_four-bits.ensures.most);
    }

pub returns : goal.returns
returns c =
    omega (arith, c.loop-four.invariant.sum, c.bits_of_few.ensures.len, payload_length c.args.text.now)
