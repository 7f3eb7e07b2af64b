use Rattle.std.proofs.Common.{◌≡◌, not, ◌<◌, ◌+◌, ◌-◌, length, refl, sym, ap, ◌∙◌, arith}
use Rattle.std.proofs.lemmas.List.{length-map}
use Rattle.qpack_spec.specs.Table.{Table, insert_count}
use Rattle.qpack_table.specs.Tables.{entry_of}
use Rattle.qpack_table.proofs.EvictableEntries.{evictable_at, evictable_used, evictable_unused, item_there}
use Rattle.qpack_table.proofs.EvictableEntries.{sent_received, not_sent}
use Rattle.qpack_table.proofs.dynamic.table.DynamicTable.is_evictable.Goals as goal

pub returns-then-uses-gt0 : goal.returns-then-uses-gt0
returns-then-uses-gt0 g c =
    let within : c.args.position < length c.self.inside.entries.items =
    omega (
      arith,
      c.requires,
      ap (λ (t : Table). length t.live) c.self.view_is,
      length-map c.self.inside.entries.items entry_of,
    ) in
    let used = c.self.invariant.references.used c.args.position c.index-entry.result.now
    (item_there _ _ _ within c.index-entry.ensures) in
    rw (← c.self.view_is)
    (evictable_at _ c.self.inside.entries.items c.args.position c.index-entry.result.now _ refl within
    c.index-entry.ensures (sym (evictable_used _ _ _ _ used (omega arith))))

pub returns-then-not-is_sent : goal.returns-then-not-is_sent
returns-then-not-is_sent g c =
    let within : c.args.position < length c.self.inside.entries.items =
    omega (
      arith,
      c.requires,
      ap (λ (t : Table). length t.live) c.self.view_is,
      length-map c.self.inside.entries.items entry_of,
    ) in
    let used = c.self.invariant.references.used c.args.position c.index-entry.result.now
    (item_there _ _ _ within c.index-entry.ensures) in
    rw (← c.self.view_is)
    (evictable_at _ c.self.inside.entries.items c.args.position c.index-entry.result.now _ refl within
    c.index-entry.ensures
    (ap not c.is_sent.ensures ∙ not_sent _ _ _ (sym c.is_sent.ensures ∙ c.if-not-is_sent.true)
    ∙ sym (evictable_unused _ _ _ c.index-entry.result.now.sent used (omega arith))))

pub returns-else-not-is_sent : goal.returns-else-not-is_sent
returns-else-not-is_sent g c =
    let within : c.args.position < length c.self.inside.entries.items =
    omega (
      arith,
      c.requires,
      ap (λ (t : Table). length t.live) c.self.view_is,
      length-map c.self.inside.entries.items entry_of,
    ) in
    let used = c.self.invariant.references.used c.args.position c.index-entry.result.now
    (item_there _ _ _ within c.index-entry.ensures) in
    let position : c.total_inserted.result - c.len.result + c.args.position
    ≡ c.self.inside.vas.dropped + c.args.position =
    omega (
      arith,
      ap (λ (t : Table). insert_count t) c.self.view_is,
      length-map c.self.inside.entries.items entry_of,
      c.total_inserted.ensures,
      c.len.ensures,
    ) in
    rw (← c.self.view_is)
    (evictable_at _ c.self.inside.entries.items c.args.position c.index-entry.result.now _ refl within
    c.index-entry.ensures
    (sent_received _ c.self.inside.vas.dropped c.args.position _ _ (sym c.is_sent.ensures ∙ c.if-not-is_sent.false) position
    ∙ sym (evictable_unused _ _ _ c.index-entry.result.now.sent used (omega arith))))
