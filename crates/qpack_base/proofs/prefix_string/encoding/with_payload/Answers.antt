use Rattle.std.proofs.Common.{ℕ, List, ◌++◌, take, refl, sym, ap, ◌∙◌, arith}
use Rattle.std.proofs.Common.{vec_len, vec_capacity, take-append-drop}
use Rattle.qpack_base.proofs.PutCodes.{none_put, more_put, put_room, last_room, all_put, bytes_from}
use Rattle.qpack_base.proofs.prefix_string.encoding.with_payload.Goals as goal

pub loop-four-init : goal.loop-four-init
loop-four-init g c = record {
  put = none_put c.args.text.now _ c.args.buf.items;
  few = omega arith;
  capacity = refl;
}

pub put_quad-pending-requires-clause-room : goal.put_quad-pending-requires-clause-room
put_quad-pending-requires-clause-room g c =
    let loop = c.loop-four in
    let parts = c.in-Some.ensures.cases in
    let whole = ap (λ (l : List ℕ). l ++ c.in-Some.behind.now) parts.0
    ∙ ap (λ (l : List ℕ). take 4 loop.rest.now ++ l) parts.1 ∙ take-append-drop 4 loop.rest.now in
    put_room c.args.text.now loop.rest.now c.in-Some.four.now c.in-Some.behind.now loop.pending.count
    loop.pending.bits (vec_len c.args.buf) (vec_len loop.buf) (vec_capacity loop.buf) c.args.buf.items
    loop.buf.items loop.invariant.put (sym whole) (omega (arith, c.requires, loop.invariant.capacity))

pub loop-four-preserved : goal.loop-four-preserved
loop-four-preserved g c =
    let loop = c.loop-four in
    let next = c.put_quad-pending in
    let parts = c.in-Some.ensures.cases in
    let whole = ap (λ (l : List ℕ). l ++ c.in-Some.behind.now) parts.0
    ∙ ap (λ (l : List ℕ). take 4 loop.rest.now ++ l) parts.1 ∙ take-append-drop 4 loop.rest.now in
    record {
      put = more_put c.args.text.now loop.rest.now c.in-Some.four.now c.in-Some.behind.now loop.pending.count
          loop.pending.bits next.result.count next.result.bits (vec_len c.args.buf) (vec_len loop.buf)
          (vec_len next.new.buf) c.args.buf.items loop.buf.items next.new.buf.items loop.invariant.put (sym whole)
          next.ensures.added next.ensures.len;
      few = next.ensures.few;
      capacity = next.ensures.capacity ∙ loop.invariant.capacity;
    }

pub put_end-requires-clause-room : goal.put_end-requires-clause-room
put_end-requires-clause-room g c =
    let loop = c.loop-four in
    last_room c.args.text.now loop.rest.now loop.pending.count loop.pending.bits (vec_len c.args.buf)
    (vec_len loop.buf) (vec_capacity loop.buf) c.args.buf.items loop.buf.items loop.invariant.put
    (omega (arith, c.requires, loop.invariant.capacity))

pub returns-clause-items : goal.returns-clause-items
returns-clause-items g c =
    let loop = c.loop-four in
    all_put c.args.text.now loop.rest.now loop.pending.count loop.pending.bits (vec_len c.args.buf)
    (vec_len loop.buf) c.args.buf.items loop.buf.items c.put_end.new.buf.items
    (bytes_from c.args.text.now (λ i. omega (arith, c.type_inv.text i))) loop.invariant.put c.put_end.ensures.items
