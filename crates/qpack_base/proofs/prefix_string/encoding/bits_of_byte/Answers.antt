use Rattle.std.proofs.Common.{ℕ, ◌<◌, get_or, ap, sym, ◌∙◌, arith}
use Rattle.qpack_base.proofs.WrittenCodes.{code_bits}
use Rattle.qpack_base.proofs.prefix_string.encoding.bits_of_byte.Goals as goal

pub returns-clause-len : goal.returns-clause-len
returns-clause-len c =
    let byte : c.args.byte < 256 = omega arith in
    ap (λ (b : ℕ). (get_or c.codes.result.now b (0, 0)).0) c.from.ensures
    ∙ sym (code_bits c.args.byte _ (c.codes.ensures.at c.args.byte byte))

pub returns-clause-most : goal.returns-clause-most
returns-clause-most c =
    let byte : c.args.byte < 256 = omega arith in
    omega (
      arith,
      ap (λ (b : ℕ). (get_or c.codes.result.now b (0, 0)).0) c.from.ensures,
      (c.codes.ensures.at c.args.byte byte).most,
    )
