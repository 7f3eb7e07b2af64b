use Rattle.std.proofs.Common.{List, ℕ, ◌-◌, length, ap, sym, subst, ◌∙◌, arith}
use Rattle.qpack_spec.specs.Huffman.{AreBytes}
use Rattle.qpack_base.proofs.PutCodes.{bytes_from}
use Rattle.qpack_base.proofs.SameBytes.{are_dropped, words_same, last_same}
use Rattle.qpack_base.proofs.bytes.same.Goals as goal

pub same_fronts-requires-clause-last : goal.same_fronts-requires-clause-last
same_fronts-requires-clause-last c =
    let a = c.args.a.now in
    let b = c.args.b.now in
    let x = c.in-Some.x.now in
    let y = c.in-Some-last_chunk.y.now in
    let first = c.in-Some.ensures.cases.1 in
    let second = c.in-Some-last_chunk.ensures.cases.1 in
    let number = sym c.from_le_bytes.ensures ∙ c.if-from_le_bytes.false ∙ c.from_le_bytes-2.ensures in
    let x_are = subst AreBytes (sym first.same) (are_dropped (length a - 8) a (bytes_from a
    (λ i. omega (arith, c.type_inv.a i)))) in
    let y_are = subst AreBytes (sym second.same) (are_dropped (length b - 8) b (bytes_from b
    (λ i. omega (arith, c.type_inv.b i)))) in
    last_same a b x y 8 (omega (arith, c.if-a-b.false)) first.same second.same
    (words_same x y (ap (λ (l : List ℕ). length l) first.same ∙ first.long)
    (ap (λ (l : List ℕ). length l) second.same ∙ second.long) x_are y_are number)
