use Rattle.std.proofs.Common.{inl}
use Rattle.std.proofs.lemmas.Result.{err_from_is_err_and}
use Rattle.h3_qpack.proofs.SessionStarts.{table_made, table_refused}
use Rattle.h3_qpack.proofs.session.empty_table.Goals as goal

pub returns-in_err-set_max_size-clause-err : goal.returns-in_err-set_max_size-clause-err
returns-in_err-set_max_size-clause-err c =
    let set = c.in_ok-set_agreed_max.ensures.ok in
    let refused = table_refused c.new-table.result c.set_agreed_max.new.self c.args.capacity c.args.maximum _
    c.new-table.ensures set.0 set.1 c.in_err-set_max_size.ensures.0 in
    let p = err_from_is_err_and c.from_residual-in_err-set_max_size.result
    c.from_residual-in_err-set_max_size.ensures.1 in
    rw (p.1, p.2) (refused.0, inl refused.1)

pub returns-clause-ok : goal.returns-clause-ok
returns-clause-ok c =
    let set = c.in_ok-set_agreed_max.ensures.ok in
    let made = table_made c.new-table.result c.set_agreed_max.new.self c.set_max_size.new.self c.args.capacity
    c.args.maximum c.new-table.ensures set.0 set.1 c.in_ok-set_max_size.ensures in
    (made.0, set.0, made.1)
