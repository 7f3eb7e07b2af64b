use Rattle.std.proofs.Common.{◌≡◌, ℕ, List, ◌++◌, length, take, arith, ap, ◌∙◌, length-take-le, take-append-drop}
use Rattle.qpack_spec.specs.Huffman.{bits_of, bits_of_bytes}
use Rattle.qpack_base.proofs.LoadedBits.{IsFour, load_four, four_fit}
use Rattle.qpack_base.proofs.prefix_string.decoding.Bits.load.Goals as goal

pub returns-clause-left : goal.returns-clause-left
returns-clause-left c =
    let all = c.args.self.now.rest.now in
    let parts = c.in-Some.ensures.cases in
    let whole : c.in-Some.code.now ++ c.in-Some.rest.now ≡ all = ap (λ (l : List ℕ). l ++ c.in-Some.rest.now) parts.0
    ∙ ap (λ (l : List ℕ). take 4 all ++ l) parts.1 ∙ take-append-drop 4 all in
    let four : IsFour c.in-Some.code.now c.from.result = record {
      four = ap (λ (l : List ℕ). length l) parts.0 ∙ length-take-le 4 all (omega (arith, parts.2));
      first = omega arith;
      second = omega arith;
      third = omega arith;
      fourth = omega arith;
      is = c.from.ensures ∙ c.from_be_bytes-code.ensures;
    } in
    load_four c.args.self.now.count c.args.self.now.loaded c.from.result c.in-Some.code.now c.in-Some.rest.now four
    ∙ ap (λ (l : List ℕ). bits_of c.args.self.now.count c.args.self.now.loaded ++ bits_of_bytes l) whole

pub returns-clause-loaded : goal.returns-clause-loaded
returns-clause-loaded c = record {
  fits = four_fit c.args.self.now.count c.args.self.now.loaded c.from.result c.requires.fits
      (omega (arith, c.from.ensures, c.from_be_bytes-code.type_inv));
  few = omega (arith, c.if-self-ge-ENOUGH.false);
}
