use Rattle.std.proofs.Common.{ℕ, ◌<◌, get_or, ap, ◌∙◌, arith}
use Rattle.qpack_base.proofs.PutCodes.{entry_is, shifted, adds_code}
use Rattle.qpack_base.proofs.prefix_string.encoding.Pending.with.Goals as goal

pub overflow_add-result : goal.overflow_add-result
overflow_add-result c =
    let table = c.codes.result.now in
    let bits = ap (λ (b : ℕ). (get_or table b (0, 0)).0) c.from.ensures in
    let n = (get_or table c.from.result (0, 0)).0 in
    let code = c.from-2.ensures ∙ ap (λ (b : ℕ). (get_or table b (0, 0)).1) c.from.ensures in
    let byte : c.args.byte < 256 = omega arith in
    let entry = entry_is c.args.byte n c.from-2.result _ (c.codes.ensures.at c.args.byte byte) bits
    code in
    let most = entry.most in
    omega (arith, (shifted c.args.self.bits n c.from-2.result (omega arith) entry.fits).small)

pub returns : goal.returns
returns c =
    let table = c.codes.result.now in
    let bits = ap (λ (b : ℕ). (get_or table b (0, 0)).0) c.from.ensures in
    let n = (get_or table c.from.result (0, 0)).0 in
    let code = c.from-2.ensures ∙ ap (λ (b : ℕ). (get_or table b (0, 0)).1) c.from.ensures in
    let byte : c.args.byte < 256 = omega arith in
    let entry = entry_is c.args.byte n c.from-2.result _ (c.codes.ensures.at c.args.byte byte) bits
    code in
    adds_code c.args.self c.args.byte n c.from-2.result entry
