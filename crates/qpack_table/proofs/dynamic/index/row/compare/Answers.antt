use Rattle.std.proofs.Common.{◌≡◌, ℕ, ◌-◌, get_or, ap, ◌∙◌, arith}
use Rattle.qpack_base.specs.HeaderFields.{field_cmp}
use Rattle.qpack_table.specs.Rows.{index_of, key_at, key_of, field_of_sought}
use Rattle.qpack_spec.specs.Field.{Field}
use Rattle.qpack_table.specs.Tables.{live_fields}
use Rattle.qpack_table.proofs.RowOrder.{decided_by_hash, decided_by_part}
use Rattle.qpack_table.proofs.RowSearches.{entry_part}
use Rattle.qpack_table.proofs.dynamic.index.row.compare.Goals as goal

pub returns-in-Equal-clause-order : goal.returns-in-Equal-clause-order
returns-in-Equal-clause-order g c =
    let index = index_of c.args.dropped c.args.slot in
    let position : c.position.result ≡ index - c.args.dropped - 1 = omega (arith, c.position.ensures) in
    let read =
    c.index.ensures ∙ ap (λ (i : ℕ). get_or c.args.entries.now.items i c.index.result.now) position in
    decided_by_part (key_at c.args.sought.now.part c.args.dropped (live_fields c.args.entries.now.items) c.args.slot)
    (key_of c.args.sought.now) _ _ c.cmp.ensures c.in-Equal.is
    (c.compare_entry.ensures.order ∙ ap (λ (f : Field). field_cmp f (field_of_sought c.args.sought.now))
    (entry_part c.args.sought.now.part c.args.dropped c.args.entries.now.items index _ c.requires.0 read))

pub returns-in_default : goal.returns-in_default
returns-in_default g c = record {
  order = decided_by_hash
      (key_at c.args.sought.now.part c.args.dropped (live_fields c.args.entries.now.items) c.args.slot)
      (key_of c.args.sought.now) _ c.cmp.ensures c.in_default.not-Equal;
  raised = omega arith;
  grows = omega arith;
}
