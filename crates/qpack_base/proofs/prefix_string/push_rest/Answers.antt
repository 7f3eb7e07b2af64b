use Rattle.std.proofs.Common.{◌∙◌, ◌-◌, arith, vec_len, vec_capacity}
use Rattle.std.proofs.lemmas.List.{take-append-le}
use Rattle.qpack_spec.specs.Huffman.{with_front, text_of_bits}
use Rattle.qpack_base.specs.Payloads.{huffman_fault_of}
use Rattle.qpack_base.proofs.TextItems.{front_fault, at_end, at_fault, at_byte, room_for_byte, room_behind_byte}
use Rattle.qpack_base.proofs.prefix_string.push_rest.Goals as goal

pub push_reserved-requires : goal.push_reserved-requires
push_reserved-requires g c =
    let step = rw c.in-Ok.is at c.in-Some.ensures.steps in
    let free = room_for_byte c.loop-byte.byte-iterator c.next.new.self c.in-Ok.byte
    (vec_capacity c.loop-byte.text - vec_len c.loop-byte.text) step c.loop-byte.invariant.room in
    omega (arith, free)

pub loop-byte-preserved : goal.loop-byte-preserved
loop-byte-preserved g c =
    let loop = c.loop-byte in
    let push = c.push_reserved in
    let step = rw c.in-Ok.is at c.in-Some.ensures.steps in
    let free = room_for_byte loop.byte-iterator c.next.new.self c.in-Ok.byte
    (vec_capacity loop.text - vec_len loop.text) step loop.invariant.room in
    record {
      text = rw push.ensures.items
          (at_byte loop.byte-iterator c.next.new.self loop.text.items c.in-Ok.byte
          (with_front c.args.text.now.items (text_of_bits c.args.rest)) step loop.invariant.text);
      room = room_behind_byte loop.byte-iterator c.next.new.self c.in-Ok.byte
          (vec_capacity loop.text - vec_len loop.text) _ step loop.invariant.room
          (omega (arith, free, push.ensures.len, push.ensures.capacity));
      start = omega (arith, push.ensures.len, loop.invariant.start);
      front = rw push.ensures.items
          (take-append-le c.args.start loop.text.items _ (omega (arith, loop.invariant.start, loop.text.ok.0))
          ∙ loop.invariant.front);
      capacity = push.ensures.capacity ∙ loop.invariant.capacity;
    }

pub returns-in-Err-clause-fault : goal.returns-in-Err-clause-fault
returns-in-Err-clause-fault g c =
    let step = rw c.in-Err.is at c.in-Some.ensures.steps in
    front_fault c.args.text.now.items (text_of_bits c.args.rest) (huffman_fault_of c.in-Err.e)
    (at_fault c.loop-byte.byte-iterator c.next.new.self c.loop-byte.text.items c.in-Err.e
    (with_front c.args.text.now.items (text_of_bits c.args.rest)) step c.loop-byte.invariant.text)

pub returns-clause-ok : goal.returns-clause-ok
returns-clause-ok g c = at_end c.loop-byte.byte-iterator c.next.new.self c.loop-byte.text.items
    (with_front c.args.text.now.items (text_of_bits c.args.rest)) c.in-None.ensures.steps c.loop-byte.invariant.text
