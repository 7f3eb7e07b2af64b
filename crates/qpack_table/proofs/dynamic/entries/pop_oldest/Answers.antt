use Rattle.std.proofs.Common.{◌≡◌, ap, refl, ◌∙◌, arith}
use Rattle.qpack_spec.specs.Field.{field_size}
use Rattle.qpack_table.specs.Positions.{Positions}
use Rattle.qpack_table.proofs.Evictions.{shed}
use Rattle.qpack_table.proofs.dynamic.entries.pop_oldest.Goals as goal

pub overflow_add-freed : goal.overflow_add-freed
overflow_add-freed g c =
    let one = shed c.args.entries.now.items c.loop.entries.items c.loop.counter _
    (field_size c.in-Some.entry.field) c.in-Some.entry c.pop_front.new.self.items
    c.loop.invariant.items refl c.in-Some.ensures.items refl in
    omega (arith, one.fits, c.loop.invariant.freed, c.requires.small)

pub loop-preserved : goal.loop-preserved
loop-preserved g c =
    let i = c.loop.invariant in
    let one = shed c.args.entries.now.items c.loop.entries.items c.loop.counter _
    (field_size c.in-Some.entry.field) c.in-Some.entry c.pop_front.new.self.items i.items refl
    c.in-Some.ensures.items refl in
    let exact : c.mem_size-freed.result ≡ field_size c.in-Some.entry.field =
    omega (arith, one.fits, i.freed, c.requires.small) in
    record {
      few = one.few;
      items = one.items;
      capacity = c.pop_front.ensures.capacity ∙ i.capacity;
      freed = omega (arith, exact, one.sum, one.fits, i.freed);
      dropped = omega (arith, i.dropped, ap (λ (p : Positions). p.dropped) c.drop.ensures);
      total = ap (λ (p : Positions). p.total) c.drop.ensures ∙ i.total;
    }
