use Rattle.std.proofs.Common.{List, ◌++◌, ◌+◌, ◌-◌, ℕ, length, take, refl, ap, sym, subst}
use Rattle.std.proofs.Common.{◌∙◌, arith, take-append-drop, length-take-le}
use Rattle.std.specs.Str.{bytes_eq}
use Rattle.qpack_spec.specs.Huffman.{AreBytes}
use Rattle.qpack_base.proofs.PutCodes.{bytes_from}
use Rattle.qpack_base.proofs.SameBytes.{are_taken, are_dropped, words_same, front_same, equal_true, drops_same, dropped_same}
use Rattle.qpack_base.proofs.bytes.same_fronts.Goals as goal

pub loop-x-preserved : goal.loop-x-preserved
loop-x-preserved c =
    let left = c.loop-x.left.now in
    let right = c.loop-x.right.now in
    let first = c.in-Some.ensures.cases in
    let second = c.in-Some-split_first_chunk.ensures.cases in
    let x = c.in-Some.x.now in
    let y = c.in-Some-split_first_chunk.y.now in
    let behind = c.in-Some.behind.now in
    let beyond = c.in-Some-split_first_chunk.beyond.now in
    let whole_left = ap (λ (l : List ℕ). l ++ behind) first.0 ∙ ap (λ (l : List ℕ). take 8 left ++ l) first.1
    ∙ take-append-drop 8 left in
    let whole_right = ap (λ (l : List ℕ). l ++ beyond) second.0 ∙ ap (λ (l : List ℕ). take 8 right ++ l) second.1
    ∙ take-append-drop 8 right in
    let number = sym c.from_le_bytes.ensures ∙ c.if-from_le_bytes.false ∙ c.from_le_bytes-in-Some.ensures in
    let inv = c.loop-x.invariant in
    let x_are = subst AreBytes (sym first.0) (are_taken 8 left inv.left_are) in
    let y_are = subst AreBytes (sym second.0) (are_taken 8 right inv.right_are) in
    let word = words_same x y (ap (λ (l : List ℕ). length l) first.0 ∙ length-take-le 8 left (omega (arith, first.2)))
    (ap (λ (l : List ℕ). length l) second.0 ∙ length-take-le 8 right (omega (arith, second.2))) x_are y_are number in
    record {
      len = omega (arith, inv.len, first.2, second.2);
      left_are = subst AreBytes (sym first.1) (are_dropped 8 left inv.left_are);
      right_are = subst AreBytes (sym second.1) (are_dropped 8 right inv.right_are);
      tail = (λ n le. dropped_same left right behind beyond n first.1 second.1
          (inv.tail (8 + n) (omega (arith, le, first.2))));
      same = front_same x y behind beyond word ∙ ap (λ (l : List ℕ). bytes_eq l (y ++ beyond)) whole_left
          ∙ ap (λ (l : List ℕ). bytes_eq left l) whole_right ∙ inv.same;
    }

pub loop-x-init : goal.loop-x-init
loop-x-init c = record {
  len = c.requires.len;
  left_are = bytes_from c.args.a.now (λ i. omega (arith, c.type_inv.a i));
  right_are = bytes_from c.args.b.now (λ i. omega (arith, c.type_inv.b i));
  tail = (λ n le. drops_same c.args.a.now c.args.b.now (length c.args.a.now - 8) n (omega (arith, le)) c.requires.last);
  same = refl;
}

pub returns : goal.returns
returns c =
    let inv = c.loop-x.invariant in
    equal_true c.loop-x.left.now c.loop-x.right.now (inv.tail 0 (omega (arith, c.in_default.ensures.cases)))
    ∙ inv.same
