use Rattle.std.proofs.Common.{◌≡◌, ℕ, ◌+◌, ◌-◌, ◌*◌, ◌%◌, List, ◌++◌, length, refl, ap, ◌∙◌, arith, lit≤, vec_capacity}
use Rattle.qpack_spec.specs.Integer.{written_integer}
use Rattle.qpack_spec.specs.Huffman.{payload_of}
use Rattle.qpack_base.proofs.PutStrings.{literal_put, literal_len}
use Rattle.qpack_base.proofs.prefix_string.append_coded.Goals as goal

pub returns : goal.returns
returns g c =
    let payload = payload_of c.args.value.now in
    let len : c.args.len ≡ length payload = omega (arith, c.requires.len, c.in_ok-make_room.ensures.ok) in
    let head : c.put.new.buf.items ≡ c.args.buf.now.items ++ written_integer (c.args.size - 1)
    (c.args.flags % 128 * 2 + 1) c.args.len =
    c.put.ensures.items ∙ ap (λ (l : List ℕ).
    l ++ written_integer (c.args.size - 1) (c.args.flags % 128 * 2 + 1) c.args.len)
    c.make_room.ensures.items in
    let whole = literal_len c.args.size c.args.flags 1 c.args.len c.encoded_len-head.result payload
    len (c.encoded_len-head.ensures.len (2 * c.args.flags + 1)) in
    let capacity : vec_capacity c.put_payload.new.buf ≡ vec_capacity c.make_room.new.buf =
    c.put_payload.ensures.capacity ∙ c.put.ensures.capacity in
    record {
      ok = literal_put c.args.size c.args.flags 1 c.args.len payload c.args.buf.now.items
          c.put.new.buf.items c.put_payload.new.buf.items (lit≤ tt) len head c.put_payload.ensures.items;
      err = tt;
      succeeds = λ room. refl;
      still = λ room. capacity ∙ c.make_room.ensures.still (omega (arith, room, whole, c.saturating_add.ensures));
      capacity = omega (arith, capacity, c.make_room.ensures.capacity);
    }
