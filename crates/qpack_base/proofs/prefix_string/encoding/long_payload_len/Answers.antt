use Rattle.std.proofs.Common.{ℕ, ◌+◌, ◌%◌, sym, subst, ◌∙◌}
use Rattle.qpack_base.proofs.WrittenCodes.{IsCounted, count_more, count_even, count_odd}
use Rattle.qpack_base.proofs.prefix_string.encoding.long_payload_len.Goals as goal

pub loop-byte-preserved : goal.loop-byte-preserved
loop-byte-preserved c =
    let loop = c.loop-byte in
    let bits = c.bits_of_byte.result in
    let counted =
    count_more c.args.text.now loop.byte-index loop.bytes loop.bits bits c.loop-byte-test.true loop.invariant
    c.bits_of_byte.ensures.len in
    subst (λ (n : ℕ). IsCounted c.args.text.now (loop.byte-index + 1) n ((loop.bits + bits) % 8))
    (sym c.saturating_add-bytes.ensures) counted

pub returns-then-bits-eq0 : goal.returns-then-bits-eq0
returns-then-bits-eq0 c =
    count_even c.args.text.now c.loop-byte.byte-index c.loop-byte.bytes c.loop-byte.bits c.loop-byte-test.false
    c.loop-byte.invariant c.if-bits-eq0.true

pub returns : goal.returns
returns c =
    c.saturating_add.ensures
    ∙ count_odd c.args.text.now c.loop-byte.byte-index c.loop-byte.bytes c.loop-byte.bits c.loop-byte-test.false
    c.loop-byte.invariant c.if-bits-eq0.false
