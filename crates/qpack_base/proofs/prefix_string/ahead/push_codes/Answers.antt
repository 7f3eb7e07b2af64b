use Rattle.std.proofs.Common.{ℕ, List, length, subst, ap, refl, sym, ◌∙◌, arith}
use Rattle.qpack_spec.specs.Huffman.{bits_of_bytes}
use Rattle.qpack_spec.proofs.Bits.{bytes_length}
use Rattle.qpack_base.specs.Payloads.{bits_ahead, PassesCodes}
use Rattle.qpack_base.proofs.WholeCodes.{nothing_passed, passes_on}
use Rattle.qpack_base.proofs.prefix_string.ahead.push_codes.Goals as goal

pub loop-left-init : goal.loop-left-init
loop-left-init g c = record {
  ahead = c.new-ahead.ensures.ahead;
  fits = omega (
    arith,
    ap (λ (l : List ℕ). length l) c.new-ahead.ensures.left,
    bytes_length c.args.payload.now,
    c.requires.room,
  );
  passes = nothing_passed (bits_of_bytes c.args.payload.now) (bits_ahead c.new-ahead.result) c.args.text.items
      c.new-ahead.ensures.left;
  len = omega arith;
  capacity = refl;
}

pub loop-left-preserved : goal.loop-left-preserved
loop-left-preserved g c =
    let all = bits_of_bytes c.args.payload.now in
    let loaded = bits_ahead c.load-ahead.result in
    let left = c.in-Some.left in
    let items = c.args.text.items in
    let before = c.loop-left.text.items in
    let pushes = c.in-Some.ensures in
    let passed = subst (λ (l : List ℕ). PassesCodes all l items before) (sym c.load-ahead.ensures.left)
    c.loop-left.invariant.passes in record {
      ahead = pushes.ahead;
      fits = pushes.fits;
      passes = passes_on all loaded (bits_ahead left) items before c.push_next.new.text.items passed pushes.passes;
      len = omega (arith, pushes.len, c.loop-left.invariant.len);
      capacity = pushes.capacity ∙ c.loop-left.invariant.capacity;
    }
