use Rattle.std.proofs.Common.{◌∷◌, ◌++◌, [], ℕ, List, refl, sym, ap, ◌∙◌, arith}
use Rattle.qpack_table.specs.Tables.{entry_of}
use Rattle.qpack_table.specs.Entries.{Entry}
use Rattle.qpack_table.proofs.EvictableEntries.{item_there, read_twice}
use Rattle.qpack_table.proofs.Kept.{sized_as}
use Rattle.qpack_table.proofs.InProgress.{referenced_before, referenced_now, uses_fit, references_of_block, flag_tells}
use Rattle.qpack_table.proofs.InProgress.{same_live, live_position}
use Rattle.qpack_table.proofs.dynamic.table.DynamicTable.reference.Goals as goal

pub returns-then-is_referenced-clause-ok : goal.returns-then-is_referenced-clause-ok
returns-then-is_referenced-clause-ok g c =
    let at = live_position c.self.inside.vas.dropped c.self.inside.entries.items _ _ _ c.args.absolute refl refl
    c.self.view_is c.total_dropped.ensures.exact c.requires.live c.requires.inserted in
    rw (← c.self.view_is) (referenced_before _ c.args.absolute
    (flag_tells _ _ _ _ _ _ c.index.result.now _ c.self.invariant.references at.0 at.1 c.index.ensures
    (sym c.is_referenced.ensures ∙ c.if-is_referenced.true)))

pub mark_referenced-requires : goal.mark_referenced-requires
mark_referenced-requires g c =
    let at = live_position c.self.inside.vas.dropped c.self.inside.entries.items _ _ _ c.args.absolute refl refl
    c.self.view_is c.total_dropped.ensures.exact c.requires.live c.requires.inserted in
    let same = read_twice _ _ _ _ at.1 c.index_mut.ensures.value c.index.ensures in
    let unflagged = ap (λ (e : Entry). e.referenced) same ∙ sym c.is_referenced.ensures ∙ c.if-is_referenced.false in
    let there = item_there _ _ _ at.1 c.index_mut.ensures.value in
    omega (arith, uses_fit _ _ _ _ _ _ c.self.invariant.references there unflagged)

pub invariant_of-self-2 : goal.invariant_of-self-2
invariant_of-self-2 g c =
    let at = live_position c.self.inside.vas.dropped c.self.inside.entries.items _ _ _ c.args.absolute refl refl
    c.self.view_is c.total_dropped.ensures.exact c.requires.live c.requires.inserted in
    let same = read_twice _ _ _ _ at.1 c.index_mut.ensures.value c.index.ensures in
    let unflagged = ap (λ (e : Entry). e.referenced) same ∙ sym c.is_referenced.ensures ∙ c.if-is_referenced.false in
    let live = same_live _ _ c.index_mut.result.now _ at.1 c.index_mut.ensures.value
    (ap (λ (e : Entry). entry_of e) c.mark_referenced.ensures) in
    record {
      sized = sized_as c.self.inside.vas c.self.inside.entries.items _ _ _ live c.self.invariant.sized;
      references = references_of_block c.self.inside.vas c.self.inside.entries.items _ _ _ _ c.args.absolute _
          c.index_mut.result.now _ c.self.invariant.references at.0
          (omega (arith, at, c.self.invariant.sized.counted))
          (item_there _ _ _ at.1 c.index_mut.ensures.value) unflagged c.mark_referenced.ensures refl
          (c.push_reserved.ensures.items
          ∙ ap (λ (l : List ℕ). l ++ c.args.absolute ∷ []) c.make_room.ensures.items);
      indexed = g.met.I.EntryIndex.same_fields _ _ c.self.inside.entries.items _ live c.self.invariant.indexed;
    }

pub returns-clause-ok : goal.returns-clause-ok
returns-clause-ok g c =
    let at = live_position c.self.inside.vas.dropped c.self.inside.entries.items _ _ _ c.args.absolute refl refl
    c.self.view_is c.total_dropped.ensures.exact c.requires.live c.requires.inserted in
    rw (← c.self.view_is) (referenced_now _ c.args.absolute _ _
    (flag_tells _ _ _ _ _ _ c.index.result.now _ c.self.invariant.references at.0 at.1 c.index.ensures
    (sym c.is_referenced.ensures ∙ c.if-is_referenced.false))
    (same_live _ _ c.index_mut.result.now _ at.1 c.index_mut.ensures.value
    (ap (λ (e : Entry). entry_of e) c.mark_referenced.ensures))
    (c.push_reserved.ensures.items ∙ ap (λ (l : List ℕ). l ++ c.args.absolute ∷ []) c.make_room.ensures.items))
