use Rattle.std.proofs.Common.{◌∷◌, ◌++◌, [], ℕ, false, List, drop, refl, ap, sym, ◌∙◌, arith}
use Rattle.std.proofs.lemmas.List.{drop-map}
use Rattle.qpack_spec.specs.Table as table
use Rattle.qpack_table.specs.Tables.{entry_of, entries_of}
use Rattle.qpack_table.specs.Entries.{Entry}
use Rattle.qpack_table.proofs.Changes.{entered}
use Rattle.qpack_table.proofs.Evictions.{joined_entries, evicted_within, room_as}
use Rattle.qpack_table.proofs.Kept.{kept_put, few_entries}
use Rattle.qpack_table.proofs.dynamic.table.DynamicTable.insert_hashed.Goals as goal

pub replace_oldest-requires-clause-there : goal.replace_oldest-requires-clause-there
replace_oldest-requires-clause-there g c =
    let room = room_as _ _ _ _ c.self.view_is c.requires.fits c.requires.evicted in
    evicted_within c.self.inside.entries.items (g.F.StoredField.field c.args.field) c.self.inside.capacities.capacity c.args.evicted
    room.fits room.evicted

pub replace_oldest-requires-clause-live : goal.replace_oldest-requires-clause-live
replace_oldest-requires-clause-live g c = few_entries _ _ _ _ c.self.invariant.sized

pub invariant_of-self-2 : goal.invariant_of-self-2
invariant_of-self-2 g c =
    let room = room_as _ _ _ _ c.self.view_is c.requires.fits c.requires.evicted in
    let new : Entry = record { field = g.F.StoredField.field c.args.field; sent = c.args.sent; referenced = false; uses = 0 } in
    kept_put c.self.inside.vas c.replace_oldest.new.vas c.self.inside.entries.items
    c.replace_oldest.new.entries.items _ _ c.self.inside.capacities.capacity _ _ new c.args.evicted
    c.self.invariant room.fits room.evicted c.in_ok-replace_oldest.ensures.entered
    c.in_ok-replace_oldest.ensures.sum refl refl
    c.in_ok-replace_oldest.ensures.dropped c.in_ok-replace_oldest.ensures.inserted c.in_ok-replace_oldest.ensures.index

pub returns-clause-ok : goal.returns-clause-ok
returns-clause-ok g c =
    let room = room_as _ _ _ _ c.self.view_is c.requires.fits c.requires.evicted in
    let new : Entry = record { field = g.F.StoredField.field c.args.field; sent = c.args.sent; referenced = false; uses = 0 } in
    rw (← c.self.view_is) (entered _ (entry_of new) c.replace_oldest.new.vas.dropped
    (entries_of c.replace_oldest.new.entries.items) room.fits
    (omega (arith, room.evicted, c.in_ok-replace_oldest.ensures.dropped))
    (ap (λ (l : List Entry). entries_of l) c.in_ok-replace_oldest.ensures.entered
    ∙ joined_entries (drop c.args.evicted c.self.inside.entries.items) new
    ∙ ap (λ (l : List table.Entry). l ++ entry_of new ∷ [])
    (sym (drop-map entry_of c.args.evicted c.self.inside.entries.items))
    ∙ ap (λ (n : ℕ). drop n (entries_of c.self.inside.entries.items) ++ entry_of new ∷ []) room.evicted))
