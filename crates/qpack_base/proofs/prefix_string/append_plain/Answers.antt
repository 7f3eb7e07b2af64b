use Rattle.std.proofs.Common.{◌≡◌, ℕ, ◌+◌, ◌-◌, ◌*◌, ◌%◌, List, ◌++◌, length, refl, ap, ◌∙◌, arith, lit≤, vec_capacity}
use Rattle.qpack_spec.specs.Integer.{written_integer}
use Rattle.qpack_base.proofs.PutStrings.{literal_put, literal_len}
use Rattle.qpack_base.proofs.prefix_string.append_plain.Goals as goal

pub returns : goal.returns
returns g c =
    let payload = c.args.value.now in
    let count = length payload in
    let twice : c.args.flags % 128 * 2 ≡ c.args.flags % 128 * 2 + 0 = omega arith in
    let head : c.put.new.buf.items ≡ c.args.buf.now.items ++ written_integer (c.args.size - 1)
    (c.args.flags % 128 * 2 + 0) count =
    c.put.ensures.items ∙ ap (λ (l : List ℕ).
    l ++ written_integer (c.args.size - 1) (c.args.flags % 128 * 2) count)
    c.make_room.ensures.items
    ∙ ap (λ (f : ℕ). c.args.buf.now.items ++ written_integer (c.args.size - 1) f count) twice in
    let whole = literal_len c.args.size c.args.flags 0 count c.encoded_len-head.result payload
    refl (c.encoded_len-head.ensures.len (2 * c.args.flags + 0)) in
    let capacity : vec_capacity c.replace_with.new.dest ≡ vec_capacity c.make_room.new.buf =
    c.replace_with.ensures.1 ∙ c.put.ensures.capacity in
    record {
      ok = literal_put c.args.size c.args.flags 0 count payload c.args.buf.now.items
          c.put.new.buf.items c.replace_with.new.dest.items (lit≤ tt) refl head c.replace_with.ensures.0;
      err = tt;
      succeeds = λ room. refl;
      still = λ room. capacity ∙ c.make_room.ensures.still (omega (arith, room, whole, c.saturating_add.ensures));
      capacity = omega (arith, capacity, c.make_room.ensures.capacity);
    }
