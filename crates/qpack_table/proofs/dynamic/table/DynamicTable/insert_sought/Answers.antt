use Rattle.std.proofs.lemmas.Result.{err_from_is_err_and}
use Rattle.qpack_base.specs.HeaderFields.{line_of}
use Rattle.qpack_table.proofs.Insertions.{inserted, not_inserted, not_found}
use Rattle.qpack_table.proofs.dynamic.table.DynamicTable.insert_sought.Goals as goal

pub returns-in-Some : goal.returns-in-Some
returns-in-Some g c = inserted c.args.self.now _ c.args.base (line_of c.args.field.now).field _ c.in-Some.ensures.inserted
    c.insert_in_room.ensures.ok c.insert_in_room.ensures.new c.insert_in_room.ensures.err

pub returns-in_err-lookup : goal.returns-in_err-lookup
returns-in_err-lookup g c =
    let p = err_from_is_err_and c.from_residual.result c.from_residual.ensures.1 in
    rw (p.1, p.2) (not_found c.args.self.now _ c.args.base (line_of c.args.field.now).field _ c.in_default.ensures.none
    c.in_err-lookup.ensures)

pub returns : goal.returns
returns g c = not_inserted c.args.self.now _ c.args.base (line_of c.args.field.now).field c.in_ok-lookup.lookup
    c.in_default.ensures.none c.in_ok-lookup.ensures
