use Rattle.std.proofs.Common.{◌≡◌, ℕ, List, [], length, refl, ◌∙◌, arith}
use Rattle.std.proofs.lemmas.Result.{err_from_is_err_and}
use Rattle.qpack_spec.specs.Huffman.{bytes_of_bits, payload_of}
use Rattle.qpack_base.proofs.prefix_string.encoding.VecU8HpackStringEncode.hpack_encode.Goals as goal

no_payload : (encoding : List ℕ) → encoding ≡ [] → length (payload_of encoding) ≡ 0
unfolding payload_of bytes_of_bits
no_payload encoding e = rw e refl

pub returns-in_err-payload-clause-memory : goal.returns-in_err-payload-clause-memory
returns-in_err-payload-clause-memory c =
    let p = err_from_is_err_and c.from_residual.result c.from_residual.ensures.1 in
    let empty : c.deref.result.now ≡ [] → c.payload_len.result ≡ 0 =
    λ e. let none = no_payload c.deref.result.now e in omega (arith, c.payload_len.ensures, none) in
    rw p.1 (λ e. absurd (let ok = c.in_err-payload.ensures.succeeds (empty (c.deref.ensures.value ∙ e)) in cc))
