use Rattle.std.proofs.Common.{ℕ, List, ◌≡◌, ◌++◌, ◌∷◌, [], ap, refl, ◌∙◌, arith, length, length-append}
use Rattle.qpack_spec.specs.Huffman.{bits_of_bytes, text_of_bits}
use Rattle.qpack_spec.proofs.Bits.{bytes_length}
use Rattle.qpack_base.proofs.Items.{byte_long}
use Rattle.qpack_base.proofs.TextItems.{at_byte, at_end, at_fault, front_none}
use Rattle.qpack_base.proofs.prefix_string.text_len.Goals as goal

pub loop-byte-init : goal.loop-byte-init
loop-byte-init c =
    let whole = bits_of_bytes c.args.payload.now in
    let same : c.into_iter-byte-iterator.result ≡ whole = cc in
    record {
      text = ([], refl, front_none (text_of_bits c.into_iter-byte-iterator.result) ∙ ap text_of_bits same);
      bits = omega (arith, ap (λ (l : List ℕ). length l) same, bytes_length c.args.payload.now);
    }

pub loop-byte-preserved : goal.loop-byte-preserved
loop-byte-preserved c =
    let loop = c.loop-byte in
    let given = loop.invariant.text in
    let step = rw c.in-Ok.is at c.in-Some.ensures.steps in
    record {
      text = (
        given.0 ++ c.in-Ok.field-0 ∷ [],
        omega (arith, given.1, length-append given.0 (c.in-Ok.field-0 ∷ [])),
        at_byte loop.byte-iterator c.next.new.self given.0 c.in-Ok.field-0
            (text_of_bits (bits_of_bytes c.args.payload.now)) step given.2,
      );
      bits = omega (
        arith,
        byte_long loop.byte-iterator c.next.new.self c.in-Ok.field-0 step,
        loop.invariant.bits,
      );
    }

pub returns-in-Err-clause-fault : goal.returns-in-Err-clause-fault
returns-in-Err-clause-fault c =
    let given = c.loop-byte.invariant.text in
    let step = rw c.in-Err.is at c.in-Some.ensures.steps in
    at_fault c.loop-byte.byte-iterator c.next.new.self given.0 c.in-Err.e
    (text_of_bits (bits_of_bytes c.args.payload.now)) step given.2

pub returns-clause-ok : goal.returns-clause-ok
returns-clause-ok c =
    let given = c.loop-byte.invariant.text in (
      given.0,
      at_end c.loop-byte.byte-iterator c.next.new.self given.0 (text_of_bits (bits_of_bytes c.args.payload.now))
          c.in-None.ensures.steps given.2,
      given.1,
    )
