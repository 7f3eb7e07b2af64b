use Rattle.std.proofs.Common.{List, ◌≤◌, ◌++◌, ℕ, get_or, [], ◌∷◌, subst, ◌∙◌, arith}
use Rattle.qpack_spec.specs.Huffman.{bits_of, bits_of_text}
use Rattle.qpack_base.specs.WrittenPayloads.{HasAdded}
use Rattle.qpack_base.proofs.PutCodes.{added_twice, text_one_more, length_one_more, length_room}
use Rattle.qpack_base.proofs.prefix_string.encoding.Pending.put_each.Goals as goal

pub flush-pending-requires-clause-room : goal.flush-pending-requires-clause-room
flush-pending-requires-clause-room g c =
    let loop = c.loop-byte in
    let inv = loop.invariant in
    omega (
      arith,
      inv.len,
      inv.capacity,
      c.requires.room,
      c.with.ensures.count,
      length_room c.args.text.now loop.byte-index c.loop-byte-test.true,
    )

pub loop-byte-preserved : goal.loop-byte-preserved
loop-byte-preserved g c =
    let loop = c.loop-byte in
    let inv = loop.invariant in
    let text = c.args.text.now in
    let i = loop.byte-index in
    let front = bits_of c.args.self.count c.args.self.bits in
    let more = bits_of_text (get_or text i 0 ∷ []) in
    let few : c.with.result.count ≤ 64 = omega (arith, inv.few, c.with.ensures.most) in
    let now = c.flush-pending in
    let flushed = subst (λ (l : List ℕ). HasAdded l now.result.count now.result.bits loop.buf.items now.new.buf.items)
    (c.with.ensures.bits few) now.ensures.added in
    record {
      added = subst (λ (l : List ℕ). HasAdded l now.result.count now.result.bits c.args.buf.now.items
          now.new.buf.items) (text_one_more front text i c.loop-byte-test.true)
          (added_twice (front ++ bits_of_text _) more loop.pending.count loop.pending.bits now.result.count
          now.result.bits c.args.buf.now.items loop.buf.items now.new.buf.items inv.added flushed);
      few = now.ensures.few;
      len = omega (
        arith,
        inv.len,
        now.ensures.len,
        c.with.ensures.count,
        length_one_more text i c.loop-byte-test.true,
      );
      capacity = now.ensures.capacity ∙ inv.capacity;
    }
