use Rattle.std.proofs.Common.{ap, sym, ◌∙◌, arith}
use Rattle.std.proofs.lemmas.Bool.{eqb-true}
use Rattle.std.proofs.lemmas.Nat.{pow_pos}
use Rattle.qpack_spec.specs.Huffman.{is_padding}
use Rattle.qpack_base.proofs.LastItems.{is_the_end}
use Rattle.qpack_base.proofs.prefix_string.decoding.DecodeIter.is_end.Goals as goal

pub returns : goal.returns
returns c t =
    let bits = c.self.inside.bits in
    let none = eqb-true _ _ (sym c.is_empty.ensures ∙ c.if-not-is_empty.false) in
    let all = eqb-true _ _ t in
    let pos = pow_pos bits.count in
    ap (is_padding 8) (sym c.self.view_is)
    ∙ is_the_end bits.count bits.loaded bits.rest.now c.if-bits-ge8.false none
    (omega (arith, all, c.power.ensures, pos))
