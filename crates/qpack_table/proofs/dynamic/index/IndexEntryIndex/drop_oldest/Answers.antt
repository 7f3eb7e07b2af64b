use Rattle.std.proofs.Common.{◌≡◌, ℕ, ◌+◌, ◌-◌, length, ap, refl, sym, subst, ◌∙◌, rules, arith}
use Rattle.qpack_spec.specs.Field.{field_size}
use Rattle.qpack_table.specs.Positions.{Positions}
use Rattle.qpack_table.proofs.Evictions.{shed}
use Rattle.qpack_table.specs.Tables.{IsIndexOfEntries}
use Rattle.qpack_table.proofs.WholeIndexes.{dropped_there, entries_shed, index_left}
use Rattle.qpack_table.proofs.dynamic.index.IndexEntryIndex.drop_oldest.Goals as goal

pub overflow_add-freed : goal.overflow_add-freed
overflow_add-freed g c =
    let one = shed c.args.entries.now.items c.loop.entries.items c.loop.counter _
    (field_size c.in-Some.entry.field) c.in-Some.entry c.pop_front.new.self.items
    c.loop.invariant.items refl c.in-Some.ensures.items refl in
    omega (arith, one.fits, c.loop.invariant.freed, c.requires.small)

pub loop-preserved : goal.loop-preserved
loop-preserved g c =
    let i = c.loop.invariant in
    let one = shed c.args.entries.now.items c.loop.entries.items c.loop.counter _
    (field_size c.in-Some.entry.field) c.in-Some.entry c.pop_front.new.self.items i.items refl
    c.in-Some.ensures.items refl in
    let exact : c.mem_size-freed.result ≡ field_size c.in-Some.entry.field =
    omega (arith, one.fits, i.freed, c.requires.small) in
    let at = dropped_there c.loop.vas.total c.loop.vas.dropped c.args.vas.now.dropped
    (length c.loop.entries.items) c.loop.counter c.args.entries.now.items c.loop.entries.items
    c.total_inserted.result c.len.result refl c.loop.invariant.items c.loop.invariant.few c.loop.invariant.dropped
    (c.loop.invariant.total ∙ c.requires.counted) c.total_inserted.ensures.total (search rules) in
    record {
      few = one.few;
      items = one.items;
      capacity = c.pop_front.ensures.capacity ∙ i.capacity;
      index = entries_shed (IsIndexOfEntries c.leave.new.self) (c.total_inserted.result - c.len.result) _
          c.loop.entries.items c.pop_front.new.self.items c.in-Some.entry (index_left _ _ _ c.leave.ensures.index)
          c.in-Some.ensures.items
          (ap (λ (p : Positions). p.dropped) c.drop.ensures ∙ ap (λ (n : ℕ). n + 1) (sym at.is));
      room = λ has. c.leave.ensures.room (i.room has);
      spare = λ most has. let few = i.spare most has in record {
        fields = omega (arith, c.leave.ensures.fields, few.fields);
        names = omega (arith, c.leave.ensures.names, few.names);
      };
      own = λ key is. i.own key is ∙ sym c.leave.ensures.seed;
      freed = omega (arith, exact, one.sum, one.fits, i.freed);
      dropped = omega (arith, i.dropped, ap (λ (p : Positions). p.dropped) c.drop.ensures);
      total = ap (λ (p : Positions). p.total) c.drop.ensures ∙ i.total;
    }

pub overflow_sub-dropped : goal.overflow_sub-dropped
overflow_sub-dropped g c = (dropped_there c.loop.vas.total c.loop.vas.dropped c.args.vas.now.dropped
    (length c.loop.entries.items) c.loop.counter c.args.entries.now.items c.loop.entries.items c.total_inserted.result
    c.len.result refl c.loop.invariant.items c.loop.invariant.few c.loop.invariant.dropped
    (c.loop.invariant.total ∙ c.requires.counted) c.total_inserted.ensures.total (search rules)).fits

pub leave-requires-clause-index : goal.leave-requires-clause-index
leave-requires-clause-index g c =
    let at = dropped_there c.loop.vas.total c.loop.vas.dropped c.args.vas.now.dropped
    (length c.loop.entries.items) c.loop.counter c.args.entries.now.items c.loop.entries.items
    c.total_inserted.result c.len.result refl c.loop.invariant.items c.loop.invariant.few c.loop.invariant.dropped
    (c.loop.invariant.total ∙ c.requires.counted) c.total_inserted.ensures.total (search rules) in
    subst (λ (n : ℕ). IsIndexOfEntries c.loop.self n c.loop.entries.items) (sym at.is) c.loop.invariant.index

pub returns-after-loop-clause-index : goal.returns-after-loop-clause-index
returns-after-loop-clause-index g c = c.loop.invariant.index

pub returns-after-loop-clause-room : goal.returns-after-loop-clause-room
returns-after-loop-clause-room g c = c.loop.invariant.room

pub returns-after-loop-clause-own : goal.returns-after-loop-clause-own
returns-after-loop-clause-own g c = c.loop.invariant.own

pub returns-after-loop-clause-spare : goal.returns-after-loop-clause-spare
returns-after-loop-clause-spare g c = c.loop.invariant.spare
