use Rattle.std.proofs.Common.{◌≡◌, ℕ, drop, length, refl, ap, sym, ◌∙◌, arith}
use Rattle.std.proofs.lemmas.List.{length-map}
use Rattle.qpack_spec.specs.Table as table
use Rattle.qpack_spec.specs.Table.{Table, fields_in, can_evict}
use Rattle.qpack_spec.specs.Window.{eviction_count, greatest_capacity}
use Rattle.qpack_spec.proofs.Windows.{eviction_count_bound}
use Rattle.qpack_table.specs.Capacities.{Agreement}
use Rattle.qpack_table.specs.Positions.{Positions}
use Rattle.qpack_table.specs.Tables.{entry_of, entries_of}
use Rattle.qpack_table.proofs.Changes.{resized_to}
use Rattle.qpack_table.proofs.Evictions.{live_less}
use Rattle.qpack_table.proofs.Kept.{kept_resized}
use Rattle.qpack_table.proofs.dynamic.table.DynamicTable.set_max_size.Goals as goal

pub drop_oldest-freed-requires-clause-there : goal.drop_oldest-freed-requires-clause-there
drop_oldest-freed-requires-clause-there g c =
    omega (
      arith,
      c.in_ok-evicted.ensures.least,
      eviction_count_bound c.args.size (fields_in c.args.self.now.live),
      length-map c.args.self.now.live (λ (e : table.Entry). e.field),
      ap (λ (t : Table). length t.live) c.self.view_is,
      length-map c.self.inside.entries.items entry_of,
    )

pub invariant_of-self : goal.invariant_of-self
invariant_of-self g c =
    let evicted : c.in_ok-evicted.evicted
    ≡ eviction_count c.args.size (fields_in (entries_of c.self.inside.entries.items)) =
    c.in_ok-evicted.ensures.least
    ∙ ap (λ (t : Table). eviction_count c.args.size (fields_in t.live)) (sym c.self.view_is) in
    rw (ap (λ (a : Agreement). a.capacity) c.set.ensures)
    (kept_resized c.self.inside.vas c.drop_oldest-freed.new.vas c.self.inside.entries.items
    c.give_back_room.new.entries.items _ _ _ c.args.size _ _ c.in_ok-evicted.evicted
    c.drop_oldest-freed.result
    c.self.invariant
    evicted (omega (arith, c.in_ok-evicted.ensures.small))
    (c.give_back_room.ensures.items ∙ c.drop_oldest-freed.ensures.left)
    c.drop_oldest-freed.ensures.freed refl
    (ap (λ (p : Positions). p.dropped) c.drop_oldest-freed.ensures.dropped)
    (ap (λ (p : Positions). p.total) c.drop_oldest-freed.ensures.dropped)
    (c.give_back_room.ensures.index _ c.drop_oldest-freed.ensures.index))

pub returns : goal.returns
returns g c =
    let evicted : c.in_ok-evicted.evicted
    ≡ eviction_count c.args.size (fields_in (entries_of c.self.inside.entries.items)) =
    c.in_ok-evicted.ensures.least
    ∙ ap (λ (t : Table). eviction_count c.args.size (fields_in t.live)) (sym c.self.view_is) in
    rw (← c.self.view_is, c.set.ensures) (resized_to _ c.args.size c.drop_oldest-freed.new.vas.dropped
    (entries_of c.give_back_room.new.entries.items)
    (omega (
      arith,
      c.in_ok-evicted.ensures.within,
      ap
          (λ (t : Table). greatest_capacity t.agreed_max) c.self.view_is,
    ))
    (ap (λ (t : Table). can_evict t (eviction_count c.args.size (fields_in t.live))) c.self.view_is
    ∙ ap (λ (n : ℕ). can_evict c.args.self.now n) (sym c.in_ok-evicted.ensures.least)
    ∙ c.in_ok-evicted.ensures.evictable)
    (omega (arith, evicted, ap (λ (p : Positions). p.dropped) c.drop_oldest-freed.ensures.dropped))
    (live_less c.self.inside.entries.items c.give_back_room.new.entries.items c.in_ok-evicted.evicted
    (c.give_back_room.ensures.items ∙ c.drop_oldest-freed.ensures.left)
    ∙ ap (λ (n : ℕ). drop n (entries_of c.self.inside.entries.items)) evicted))
