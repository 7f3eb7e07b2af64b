use Rattle.std.proofs.Common.{◌≡◌, ◌∙◌, ◌-◌, suc, sym, ap, arith}
use Rattle.qpack_decoding.specs.FieldSections.{start_of}
use Rattle.qpack_decoding.proofs.SpansInTurn.{starts_later}
use Rattle.qpack_decoding.proofs.field_section.start_of.Goals as goal

pub returns-else-index-eq0 : goal.returns-else-index-eq0
returns-else-index-eq0 c =
    let later : c.args.index ≡ suc (c.args.index - 1) = omega (arith, c.if-index-eq0.false) in
    sym (ap (start_of 0 c.args.spans.now) later
    ∙ starts_later 0 c.args.spans.now (c.args.index - 1) _ (omega (arith, c.requires)))
