use Rattle.std.proofs.Common.{◌≡◌, ℕ, ◌+◌, ◌-◌, ◌*◌, ◌/◌, ◌%◌, refl, ap, subst, ◌∙◌, arith}
use Rattle.qpack_spec.specs.Huffman.{bits_of}
use Rattle.qpack_base.specs.WrittenPayloads.{HasAdded}
use Rattle.qpack_base.proofs.AddedBits.{added_more, adds_byte, adds_last}
use Rattle.qpack_base.proofs.prefix_string.encoding.put_last.Goals as goal

pub loop-left-preserved : goal.loop-left-preserved
loop-left-preserved g c =
    let inv = c.loop-left.invariant in
    let left = c.loop-left.left in
    let pushed = c.push_reserved.ensures in
    let filled = c.args.loaded * c.power-places.result + (c.power-places.result - 1) in
    let whole = bits_of (c.args.count + (8 - c.args.count % 8) % 8) filled in
    let more : left ≡ 8 + (left - 8) = omega (arith, c.loop-left-test.true) in
    let high = ap (λ (p : ℕ). filled / p) c.power.ensures in
    let was = subst (λ (n : ℕ). HasAdded whole n filled c.args.buf.now.items c.loop-left.buf.items) more inv.added in
    let byte = adds_byte (filled / c.power.result)
    (filled / c.power.result % 256) c.loop-left.buf.items c.push_reserved.new.self.items refl pushed.items in
    record {
      added = added_more whole 8 (left - 8) filled (filled / c.power.result) c.args.buf.now.items c.loop-left.buf.items
          c.push_reserved.new.self.items was high byte;
      whole = omega (arith, inv.whole);
      most = omega (arith, inv.most);
      room = omega (arith, inv.room, inv.whole, pushed.len, pushed.capacity);
      capacity = pushed.capacity ∙ inv.capacity;
    }

pub returns-clause-items : goal.returns-clause-items
returns-clause-items g c =
    let inv = c.loop-left.invariant in
    let none : c.loop-left.left ≡ 0 = omega (arith, inv.whole, c.loop-left-test.false) in
    let ones = (8 - c.args.count % 8) % 8 in
    let filled = c.args.loaded * c.power-places.result + (c.power-places.result - 1) in
    let is = ap (λ (p : ℕ). c.args.loaded * p + (p - 1)) c.power-places.ensures in
    adds_last c.args.count c.args.loaded ones filled c.args.buf.now.items c.loop-left.buf.items (omega arith) is
    (subst (λ (n : ℕ). HasAdded (bits_of (c.args.count + ones) filled) n filled c.args.buf.now.items
    c.loop-left.buf.items) none inv.added)
