use Rattle.std.proofs.Common.{refl, arith}
use Rattle.std.proofs.lemmas.Result.{err_from_is_err_and}
use Rattle.qpack_table.proofs.Changes.{fits_table, put_against_held, put_behind, is_inserted}
use Rattle.qpack_table.proofs.dynamic.table.DynamicTable.put.Goals as goal

pub returns-in_default : goal.returns-in_default
returns-in_default g c = put_against_held _ _ (fits_table _ _ _ _ (omega arith) (omega arith) (omega arith) refl
    (c.in_default.ensures.held (g.F.StoredField.field c.args.field) (omega arith)))

pub returns-in_err-insert : goal.returns-in_err-insert
returns-in_err-insert g c =
    let p = err_from_is_err_and c.from_residual.result c.from_residual.ensures.1 in
    rw (p.1, p.2) (
      is_inserted _ _ (fits_table _ _ c.in-Some.evicted _ (omega arith) (omega arith) (omega arith)
          (c.in-Some.ensures.least (g.F.StoredField.field c.args.field) (omega arith)) c.in-Some.ensures.evictable),
      c.in_err-insert.ensures.err,
    )

pub returns : goal.returns
returns g c = put_behind _ _ _ (fits_table _ _ c.in-Some.evicted _ (omega arith) (omega arith) (omega arith)
    (c.in-Some.ensures.least (g.F.StoredField.field c.args.field) (omega arith)) c.in-Some.ensures.evictable)
    c.in_ok-insert.ensures.ok
