use Rattle.std.proofs.Common.{◌≡◌, ◌-◌, ◌++◌, ◌∙◌, length, ap, sym, List, ℕ, true, arith}
use Rattle.std.proofs.lemmas.List.{length-append}
use Rattle.qpack_spec.specs.Huffman.{payload_of}
use Rattle.qpack_spec.specs.Text.{is_coded}
use Rattle.qpack_base.specs.Codings.{coding_of}
use Rattle.qpack_base.proofs.CodeRoom.{payload_most}
use Rattle.qpack_base.proofs.PutStrings.{literal_headed, string_coded}
use Rattle.qpack_base.proofs.prefix_string.append_short.Goals as goal

pub put_payload-requires : goal.put_payload-requires
put_payload-requires g c =
    let value = c.args.value.now in
    omega (arith, payload_most value, c.requires.room, c.push_reserved.ensures.len, c.push_reserved.ensures.capacity)

pub returns-clause-done : goal.returns-clause-done
returns-clause-done g c = λ done.
    let value = c.args.value.now in
    let coded : is_coded (coding_of c.args.coding) value ≡ true =
    sym c.codes.ensures ∙ c.if-not-codes.false in
    let old = c.args.buf.now in
    let pushed = c.push_reserved.new.self in
    let put = c.put_payload.new.buf in
    let start : c.len-start.result ≡ length old.items = omega (arith, c.len-start.ensures, old.ok.0) in
    let len : c.len.result - c.len-start.result - 1 ≡ length (payload_of value) =
    omega (
      arith,
      c.len.ensures,
      c.len-start.ensures,
      c.push_reserved.ensures.len,
      pushed.ok.0,
      put.ok.0,
      ap (λ (l : List ℕ). length l) c.put_payload.ensures.items,
      length-append pushed.items (payload_of value),
    ) in
    literal_headed c.args.size c.args.flags (c.len.result - c.len-start.result - 1) c.len-start.result c.in-Some.head
    (payload_of value) old.items pushed.items put.items start c.push_reserved.ensures.items c.put_payload.ensures.items len
    c.in-Some.ensures.some
    ∙ ap (λ (l : List ℕ). old.items ++ l) (sym (string_coded (coding_of c.args.coding) c.args.size c.args.flags value
    coded))
