use Rattle.std.proofs.Common.{◌≡◌, ℕ, ◌<◌, List, ◌∷◌, ◌++◌, arith, ap, sym, ◌∙◌}
use Rattle.qpack_spec.specs.Huffman.{bits_of, bits_of_bytes}
use Rattle.qpack_base.proofs.LoadedBits.{load_one, one_fits, one_small}
use Rattle.qpack_base.proofs.prefix_string.decoding.Bits.load_last.Goals as goal

pub overflow_mul-self : goal.overflow_mul-self
overflow_mul-self c =
    let inv = c.loop-first.invariant in
    let next = c.in-Some.ensures.cases in
    omega (
      arith,
      one_small c.loop-first.self.count c.loop-first.self.loaded 0 inv.loaded.fits
          (omega (arith, inv.few, next.1)) (omega arith),
    )

pub overflow_add-self : goal.overflow_add-self
overflow_add-self c =
    let inv = c.loop-first.invariant in
    let next = c.in-Some.ensures.cases in
    let byte : c.from.result < 256 = omega arith in
    omega (
      arith,
      one_small c.loop-first.self.count c.loop-first.self.loaded c.from.result inv.loaded.fits
          (omega (arith, inv.few, next.1)) byte,
    )

pub loop-first-preserved : goal.loop-first-preserved
loop-first-preserved c =
    let inv = c.loop-first.invariant in
    let next = c.in-Some.ensures.cases in
    let byte : c.from.result < 256 = omega arith in
    let count = c.loop-first.self.count in
    let loaded = c.loop-first.self.loaded in
    let rest = c.in-Some.rest.now in
    let first : c.loop-first.self.rest.now ≡ c.from.result ∷ rest = next.0
    ∙ ap (λ (b : ℕ). b ∷ rest) (sym c.from.ensures) in record {
      left = load_one count loaded c.from.result rest byte
          ∙ ap (λ (l : List ℕ). bits_of count loaded ++ bits_of_bytes l) (sym first) ∙ inv.left;
      loaded = record {
        fits = one_fits count loaded c.from.result inv.loaded.fits byte;
        few = omega (arith, inv.few, next.1);
      };
      few = omega (arith, inv.few, next.1);
    }
