use Rattle.std.proofs.Common.{ap, arith}
use Rattle.std.proofs.lemmas.List.{length-map}
use Rattle.qpack_spec.specs.Reading.{greatest_of}
use Rattle.qpack_table.specs.Tables.{entry_of, references_in}
use Rattle.qpack_table.proofs.Greatest.{greatest_within}
use Rattle.qpack_table.proofs.dynamic.table.DynamicTable.greatest_reference.Goals as goal

pub returns-clause-inserted : goal.returns-clause-inserted
returns-clause-inserted g c =
    let within = greatest_within c.self.inside.vas.total c.self.inside.referenced.items
    (references_in c.self.inside.unacknowledged) c.self.invariant.references.behind in
    rw (← c.self.view_is) (omega (
      arith,
      within,
      c.greatest_in.ensures,
      ap greatest_of c.deref.ensures.value,
      c.self.invariant.sized.counted,
      length-map c.self.inside.entries.items entry_of,
    ))
