use Rattle.std.proofs.Common.{◌≡◌, ℕ, [], length, ap, subst, sym, arith, refl, Some, None}
use Rattle.qpack_base.specs.HeaderFields.{line_of}
use Rattle.qpack_spec.specs.Field.{Field, FieldLine}
use Rattle.qpack_table.specs.Indexes.{FindsNewest}
use Rattle.qpack_table.specs.Rows.{part_of}
use Rattle.qpack_table.specs.SortedIndexes.{IsEndAt}
use Rattle.qpack_table.specs.Tables.{live_fields}
use Rattle.qpack_table.specs.declared.dynamic.comparing.Part.TheVariants.{Name}
use Rattle.qpack_table.specs.declared.dynamic.sorted.End.TheVariants.{First}
use Rattle.qpack_table.proofs.Lookups.{fields_long}
use Rattle.qpack_table.proofs.NewestEntries.{newest_name}
use Rattle.qpack_table.proofs.SortedNames.{between, greatest_of_run, none_of_run}
use Rattle.qpack_table.proofs.dynamic.sorted.SortedIndexFindsEntries.newest_of_name.Goals as goal
use Rattle.qpack_table.proofs.dynamic.sorted.SortedIndexFindsEntries.newest_of_name.Goals.{in-Ok-search, in-Ok-search-2}

pub search-requires : goal.search-requires
search-requires g c = record { sorted = (length c.args.entries.now.items, omega arith, c.requires.index) }

pub search-requires-2 : goal.search-requires-2
search-requires-2 g c = record { sorted = (length c.args.entries.now.items, omega arith, c.requires.index) }

pub returns-in_default : goal.returns-in_default
returns-in_default g c =
    let es = c.args.entries.now.items in
    let f : Field = (line_of c.new-sought.result).field in
    let name : part_of (Name 0) f ≡ record { name = c.args.name.now; value = [] } =
    ap (λ (l : FieldLine). part_of (Name 0) l.field) c.new-sought.ensures in
    record {
      found = newest_name 0 c.args.dropped es c.args.name.now None
          (subst (λ (x : Field). FindsNewest (Name 0) c.args.dropped (live_fields es) x None) name
          (none_of_run (Name 0) c.args.dropped (live_fields es) (length es) c.args.self.now.sorted.items c.requires.index f
          c.in_default.ensures.end.1 (sym (fields_long es))));
    }

pub greatest_between-requires : goal.greatest_between-requires
greatest_between-requires g c =
    let es = c.args.entries.now.items in
    let sorted = c.args.self.now.sorted.items in
    let f : Field = (line_of c.new-sought.result).field in
    let begins : IsEndAt (Name 0) c.args.dropped (live_fields es) sorted f First c.match-search-2.first =
    elim c.match-search-2.branch [
      | in-Ok-search w ↦ subst (λ (n : ℕ). IsEndAt (Name 0) c.args.dropped (live_fields es) sorted f First n)
          (sym w.first-is) w.in-Ok-search.ensures.end.0
      | in-Ok-search-2 w ↦ subst (λ (n : ℕ). IsEndAt (Name 0) c.args.dropped (live_fields es) sorted f First n)
          (sym w.first-is) w.in-Ok-search.ensures.end.0
    ] in
    let ends = c.in-Ok.ensures.end.0 in
    let run = c.in-Ok.ensures.end.1 in
    let place = between (Name 0) c.args.dropped (live_fields es) (length es) sorted c.requires.index f
    c.match-search-2.first c.in-Ok.end begins ends run.position 0 run.within (run.equal 0) in
    record { order = omega (arith, place); within = ends.within }

pub returns : goal.returns
returns g c =
    let es = c.args.entries.now.items in
    let sorted = c.args.self.now.sorted.items in
    let f : Field = (line_of c.new-sought.result).field in
    let name : part_of (Name 0) f ≡ record { name = c.args.name.now; value = [] } =
    ap (λ (l : FieldLine). part_of (Name 0) l.field) c.new-sought.ensures in
    let begins : IsEndAt (Name 0) c.args.dropped (live_fields es) sorted f First c.match-search-2.first =
    elim c.match-search-2.branch [
      | in-Ok-search w ↦ subst (λ (n : ℕ). IsEndAt (Name 0) c.args.dropped (live_fields es) sorted f First n)
          (sym w.first-is) w.in-Ok-search.ensures.end.0
      | in-Ok-search-2 w ↦ subst (λ (n : ℕ). IsEndAt (Name 0) c.args.dropped (live_fields es) sorted f First n)
          (sym w.first-is) w.in-Ok-search.ensures.end.0
    ] in
    record {
      found = newest_name 0 c.args.dropped es c.args.name.now (Some c.greatest_between.result)
          (subst (λ (x : Field). FindsNewest (Name 0) c.args.dropped (live_fields es) x (Some c.greatest_between.result))
          name
          (subst (λ (n : ℕ). FindsNewest (Name 0) c.args.dropped (live_fields es) (part_of (Name 0) f) (Some n))
          (sym c.greatest_between.ensures)
          (greatest_of_run (Name 0) c.args.dropped (live_fields es) (length es) sorted c.requires.index f
          c.match-search-2.first c.in-Ok.end begins c.in-Ok.ensures.end.0 _ refl c.in-Ok.ensures.end.1
          (sym (fields_long es)))));
    }
