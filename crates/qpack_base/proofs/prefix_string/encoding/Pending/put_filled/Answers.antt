use Rattle.std.proofs.Common.{◌≡◌, ℕ, ◌+◌, ◌-◌, ◌*◌, ◌/◌, ◌%◌, ◌^◌, length, take, refl, ap, ◌∙◌, arith}
use Rattle.std.proofs.lemmas.Nat.{pow_pos}
use Rattle.qpack_spec.specs.Huffman.{bits_of}
use Rattle.qpack_base.proofs.PutCodes.{shifted}
use Rattle.qpack_base.proofs.FilledWords.{word_filled, filled_front}
use Rattle.qpack_base.proofs.prefix_string.encoding.Pending.put_filled.Goals as goal

pub overflow_add-marked-2 : goal.overflow_add-marked-2
overflow_add-marked-2 g c =
    let n = 63 - c.args.self.count in
    let pos = pow_pos n in
    let is = shifted (c.args.self.bits * 2 ^ 1 % 2 ^ 64 + 1) n (2 ^ n - 1) (omega arith) (omega arith) in
    let small = is.small in
    omega (arith, small, c.power.ensures)

pub returns-clause-items : goal.returns-clause-items
returns-clause-items g c =
    let count = c.args.self.count in
    let n = 63 - count in
    let old = c.args.buf.now in
    let shift = (c.args.self.bits * 2 ^ 1 % 2 ^ 64 + 1) * 2 ^ n % 2 ^ 64 in
    let word = shift + (c.power.result - 1) in
    let is = ap (λ (p : ℕ). bits_of 64 (shift + (p - 1))) c.power.ensures
    ∙ word_filled count c.args.self.bits n (omega (arith, c.requires.few)) in
    let end : c.len.result + (count + 7) / 8 ≡ length old.items + (count + 7) / 8 =
    omega (arith, c.len.ensures, old.ok.0) in
    filled_front count c.args.self.bits word ((count + 7) / 8) old.items c.put_eight.new.buf.items
    c.truncate.new.self.items c.put_eight.ensures.items is c.requires.few refl
    (c.truncate.ensures.items ∙ ap (λ (k : ℕ). take k c.put_eight.new.buf.items) end)
