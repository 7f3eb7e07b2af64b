use Rattle.std.proofs.Common.{◌∷◌, ◌++◌, [], ℕ, List, drop, ap, sym, ◌∙◌, arith}
use Rattle.std.proofs.lemmas.List.{drop-map, length-map}
use Rattle.qpack_spec.specs.Table as table
use Rattle.qpack_table.specs.Tables.{entry_of, entries_of}
use Rattle.qpack_table.specs.Entries.{Entry}
use Rattle.qpack_table.proofs.Kept.{few_entries}
use Rattle.qpack_table.proofs.Sent.{sent_now, kept_sent, not_referenced, entered_and_referenced}
use Rattle.qpack_table.proofs.Evictions.{joined_entries, evicted_within, room_as}
use Rattle.qpack_table.proofs.dynamic.table.DynamicTable.insert_sent.Goals as goal

pub replace_oldest-requires-clause-there : goal.replace_oldest-requires-clause-there
replace_oldest-requires-clause-there g c =
    let room = room_as _ _ _ _ c.self.view_is c.requires.fits c.requires.evicted in
    evicted_within c.self.inside.entries.items (g.F.StoredField.field c.args.field) c.self.inside.capacities.capacity c.args.evicted
    room.fits room.evicted

pub replace_oldest-requires-clause-live : goal.replace_oldest-requires-clause-live
replace_oldest-requires-clause-live g c = few_entries _ _ _ _ c.self.invariant.sized

pub invariant_of-self-2 : goal.invariant_of-self-2
invariant_of-self-2 g c =
    let room = room_as _ _ _ _ c.self.view_is c.requires.fits c.requires.evicted in
    kept_sent c.self.inside.vas c.replace_oldest.new.vas c.self.inside.entries.items
    c.replace_oldest.new.entries.items _ _ c.self.inside.capacities.capacity _ _ _ (g.F.StoredField.field c.args.field) c.args.evicted
    c.total_inserted.result c.self.invariant room.fits room.evicted c.in_ok-replace_oldest.ensures.entered
    c.in_ok-replace_oldest.ensures.sum
    c.in_ok-replace_oldest.ensures.dropped c.in_ok-replace_oldest.ensures.inserted c.total_inserted.ensures.total
    (c.push_reserved.ensures.items ∙ ap (λ (l : List ℕ). l ++ c.total_inserted.result ∷ [])
    c.make_room.ensures.items)
    c.in_ok-replace_oldest.ensures.index

pub returns-clause-ok : goal.returns-clause-ok
returns-clause-ok g c =
    let room = room_as _ _ _ _ c.self.view_is c.requires.fits c.requires.evicted in
    let new : Entry = sent_now (g.F.StoredField.field c.args.field) in
    rw (← c.self.view_is) (entered_and_referenced _ (g.F.StoredField.field c.args.field) c.replace_oldest.new.vas.dropped
    c.total_inserted.result (entries_of c.replace_oldest.new.entries.items) _ room.fits
    (omega (arith, room.evicted, c.in_ok-replace_oldest.ensures.dropped))
    (ap (λ (l : List Entry). entries_of l) c.in_ok-replace_oldest.ensures.entered
    ∙ joined_entries (drop c.args.evicted c.self.inside.entries.items) new
    ∙ ap (λ (l : List table.Entry). l ++ entry_of new ∷ [])
    (sym (drop-map entry_of c.args.evicted c.self.inside.entries.items))
    ∙ ap (λ (n : ℕ). drop n (entries_of c.self.inside.entries.items) ++ entry_of new ∷ []) room.evicted)
    (omega (
      arith,
      c.total_inserted.ensures.total,
      c.in_ok-replace_oldest.ensures.inserted,
      c.self.invariant.sized.counted,
      length-map c.self.inside.entries.items entry_of,
    ))
    (not_referenced c.self.inside.vas _ _ _ _ c.self.invariant.references (omega (
      arith,
      c.total_inserted.ensures.total,
      c.in_ok-replace_oldest.ensures.inserted,
    )))
    (c.push_reserved.ensures.items ∙ ap (λ (l : List ℕ). l ++ c.total_inserted.result ∷ [])
    c.make_room.ensures.items))
