use Rattle.std.proofs.Common.{◌≡◌, ◌∙◌, ℕ, List, [], ◌∷◌, inl, map, refl, ap, sym, eqb-true}
use Rattle.qpack_spec.specs.Integer.{written_integer}
use Rattle.qpack_spec.specs.Prefix.{prefix_for, written_prefix}
use Rattle.qpack_encoding.specs.Encoders.{written_alone}
use Rattle.qpack_encoding.proofs.NoFields.{no_field, nothing_written}
use Rattle.h3_qpack_c.specs.declared.fields.Field.{Field}
use Rattle.h3_qpack_c.specs.Crossing.{line_of_lent, copied, told_of_copy}
use Rattle.h3_qpack_c.proofs.stateless.h3q_encode_stateless.Goals as goal

two_zeros : written_prefix (prefix_for 0 0 0) ≡ 0 ∷ 0 ∷ []
unfolding written_prefix prefix_for written_integer
two_zeros = refl

pub returns-then-is_empty : goal.returns-then-is_empty
returns-then-is_empty c =
    let none = no_field c.args.fields.now (eqb-true _ _ (sym c.is_empty.ensures ∙ c.if-is_empty.true)) in
    let zeros = sym (ap (λ (fs : List Field). written_alone (map line_of_lent fs)) none ∙ nothing_written ∙ two_zeros) in
    inl (
      c.write.ensures.told ∙ ap (λ (b : List ℕ). told_of_copy b c.args.section.now) zeros,
      c.write.ensures.copied ∙ ap (λ (b : List ℕ). copied b c.args.section.now) zeros,
    )
