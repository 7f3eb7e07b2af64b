use Rattle.std.proofs.Common.{◌≡◌, ℕ, ◌+◌, ◌-◌, subst, sym, ◌∙◌, arith}
use Rattle.qpack_table.specs.Rows.{key_of, Searching}
use Rattle.qpack_table.specs.Tables.{live_fields}
use Rattle.qpack_table.proofs.RowSearches.{looked_higher}
use Rattle.qpack_table.proofs.dynamic.index.row.Row.after_lesser.Goals as goal

pub returns-in-Less-clause-parted : goal.returns-in-Less-clause-parted
returns-in-Less-clause-parted g c =
    let next : c.args.at - 1 + 1 ≡ c.args.at = omega (arith, c.if-low-at.false, c.requires.from) in
    subst (λ (i : ℕ). Searching c.args.sought.now.part c.args.dropped (live_fields c.args.entries.now.items)
    c.args.self.now.slots.items (key_of c.args.sought.now) i c.args.high) next
    (looked_higher _ _ _ _ c.requires.row _ _ _ (c.args.at - 1) c.requires.parted
    (omega (arith, c.if-low-at.false, c.requires.from)) (omega (arith, c.requires.within)) c.index.result.now
    c.index.ensures (sym c.cmp.ensures ∙ c.in-Less.is))
