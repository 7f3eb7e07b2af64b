use Rattle.std.proofs.Common.{◌≡◌, ℕ, ◌+◌, ◌-◌, [], ◌∷◌, List, length, refl, ap, subst, ◌∙◌, arith}
use Rattle.std.proofs.lemmas.List.{length-append}
use Rattle.qpack_table.specs.Indexes.{IsIndexOf}
use Rattle.qpack_table.specs.Tables.{live_fields}
use Rattle.qpack_table.specs.Entries.{Entry}
use Rattle.qpack_table.proofs.WholeIndexes.{NewestThere, index_before}
use Rattle.qpack_table.proofs.dynamic.index.IndexEntryIndex.enter.Goals as goal

pub enter-requires-clause-index : goal.enter-requires-clause-index
enter-requires-clause-index g c =
    let pushed = c.requires.pushed in
    let long = ap (λ (l : List Entry). length l) pushed.2 ∙ length-append pushed.0 (pushed.1 ∷ []) in
    let at : NewestThere c.args.dropped (c.args.dropped + c.len.result) (length pushed.0) =
    record { above = omega (arith, long); is = omega (arith, long) } in
    index_before c.args.dropped c.args.dropped (c.args.dropped + c.len.result) pushed.0 c.args.entries.now.items
    pushed.1 _ pushed.3 pushed.2 refl at

pub returns-clause-index : goal.returns-clause-index
returns-clause-index g c =
    let count : c.args.dropped + c.len.result - c.args.dropped ≡ length c.args.entries.now.items = omega arith in
    subst (λ (n : ℕ). IsIndexOf c.args.dropped (live_fields c.args.entries.now.items) n c.enter.new.self) count
    c.enter.ensures.index
