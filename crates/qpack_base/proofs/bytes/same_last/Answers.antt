use Rattle.std.proofs.Common.{◌≡◌, List, ℕ, ◌-◌, length, drop, ap, sym, subst, ◌∙◌, arith, w32}
use Rattle.std.specs.Int.{from_le_bytes}
use Rattle.qpack_spec.specs.Huffman.{AreBytes}
use Rattle.qpack_base.proofs.PutCodes.{bytes_from}
use Rattle.qpack_base.proofs.SameBytes.{are_dropped, halves_same, last_same, ends_same, numbers_decide}
use Rattle.qpack_base.proofs.bytes.same_last.Goals as goal

pub returns : goal.returns
returns c =
    let a = c.args.a.now in
    let b = c.args.b.now in
    let x = c.in-Some.x.now in
    let y = c.in-Some-last_chunk.y.now in
    let first = c.in-Some.ensures.cases.1 in
    let second = c.in-Some-last_chunk.ensures.cases.1 in
    let x_are = subst AreBytes (sym first.same) (are_dropped (length a - 4) a (bytes_from a
    (λ i. omega (arith, c.type_inv.a i)))) in
    let y_are = subst AreBytes (sym second.same) (are_dropped (length b - 4) b (bytes_from b
    (λ i. omega (arith, c.type_inv.b i)))) in
    let len : length a ≡ length b = c.requires.len in
    numbers_decide a b c.from_le_bytes.result c.from_le_bytes-2.result
    (λ e. ends_same a b (length a - 4) 4 (omega (arith, c.requires.short)) c.requires.first
    (last_same a b x y 4 len first.same second.same
    (halves_same x y (ap (λ (l : List ℕ). length l) first.same ∙ first.long)
    (ap (λ (l : List ℕ). length l) second.same ∙ second.long) x_are y_are
    (sym c.from_le_bytes.ensures ∙ e ∙ c.from_le_bytes-2.ensures))))
    (λ h. c.from_le_bytes.ensures ∙ ap (from_le_bytes w32) (first.same ∙ ap (λ (l : List ℕ). drop (length l - 4) l) h
    ∙ sym second.same) ∙ sym c.from_le_bytes-2.ensures)
