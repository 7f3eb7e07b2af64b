use Rattle.std.proofs.Common.{◌≡◌, ℕ, ◌+◌, ◌-◌, ◌∷◌, [], List, length, get_or, insert, ap, subst, sym, ◌∙◌, arith, rules}
use Rattle.std.proofs.lemmas.List.{length-append}
use Rattle.qpack_base.specs.HeaderFields.{line_of}
use Rattle.qpack_spec.specs.Field.{Field}
use Rattle.qpack_table.specs.Entries.{Entry}
use Rattle.qpack_table.specs.SortedIndexes.{IsSortedIndexOf, IsEndAt}
use Rattle.qpack_table.specs.Tables.{live_fields}
use Rattle.qpack_table.specs.declared.dynamic.comparing.Part.TheVariants.{Whole}
use Rattle.qpack_table.specs.declared.dynamic.sorted.End.TheVariants.{Last}
use Rattle.qpack_table.proofs.SortedChanges.{sorted_pushed, sorted_entered}
use Rattle.qpack_table.proofs.WholeIndexes.{line_read}
use Rattle.qpack_table.proofs.dynamic.sorted.SortedIndexEntryIndex.enter.Goals as goal
use Rattle.qpack_table.proofs.dynamic.sorted.SortedIndexEntryIndex.enter.Goals.{in-Ok, in-Ok-2}

pub search-requires : goal.search-requires
search-requires g c =
    let p = c.requires.pushed in
    let long : length c.args.entries.now.items ≡ length p.0 + 1 =
    ap (λ (l : List Entry). length l) p.2 ∙ length-append p.0 (p.1 ∷ []) in
    record {
      sorted = (
        length p.0,
        omega (arith, long),
        sorted_pushed c.args.dropped p.0 c.args.entries.now.items p.1 c.args.self.now.sorted.items p.3 p.2,
      );
    }

pub returns-in_default-clause-index : goal.returns-in_default-clause-index
returns-in_default-clause-index g c =
    let p = c.requires.pushed in
    let es = c.args.entries.now.items in
    let old = c.args.self.now.sorted.items in
    let newest : ℕ = c.args.dropped + length es in
    let f : Field = (line_of c.as_line-newest.result).field in
    let long : length es ≡ length p.0 + 1 = ap (λ (l : List Entry). length l) p.2 ∙ length-append p.0 (p.1 ∷ []) in
    let at : IsEndAt (Whole 0) c.args.dropped (live_fields es) old f Last c.match-search.place =
    elim c.match-search.branch [
      | in-Ok w ↦ subst (λ (n : ℕ). IsEndAt (Whole 0) c.args.dropped (live_fields es) old f Last n) (sym w.place-is)
          w.in-Ok.ensures.end.0
      | in-Ok-2 w ↦ subst (λ (n : ℕ). IsEndAt (Whole 0) c.args.dropped (live_fields es) old f Last n) (sym w.place-is)
          w.in-Ok.ensures.end.0
    ] in
    let position : c.len.result - 1 ≡ newest - c.args.dropped - 1 = omega (arith, c.len.ensures) in
    let read = line_read (Whole 0) c.args.dropped es newest c.index.result.now (line_of c.as_line-newest.result)
    (omega (arith, long), omega arith)
    (c.index.ensures ∙ ap (λ (i : ℕ). get_or es i c.index.result.now) position) c.as_line-newest.ensures in
    let inserted : c.insert.new.self.items ≡ insert old c.match-search.place newest = search rules in
    subst (λ (l : List ℕ). IsSortedIndexOf c.args.dropped (live_fields es) (length es) l) (sym inserted)
    (subst (λ (n : ℕ). IsSortedIndexOf c.args.dropped (live_fields es) n (insert old c.match-search.place newest))
    (sym long)
    (sorted_entered 0 c.args.dropped (live_fields es) (length p.0) old newest f c.match-search.place
    (sorted_pushed c.args.dropped p.0 es p.1 old p.3 p.2) (omega (arith, long)) (sym read) at))
