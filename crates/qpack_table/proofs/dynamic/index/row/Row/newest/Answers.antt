use Rattle.std.proofs.Common.{◌+◌, None, Some, refl, sym, arith}
use Rattle.qpack_base.specs.HeaderFields.{line_of}
use Rattle.qpack_table.specs.Rows.{key_of}
use Rattle.qpack_table.proofs.Halvings.{counts_fewer}
use Rattle.qpack_table.proofs.Lookups.{fields_long}
use Rattle.qpack_table.proofs.NewestEntries.{newest_found_in, row_few}
use Rattle.qpack_table.proofs.RowSearches.{found_some, found_none}
use Rattle.qpack_table.proofs.dynamic.index.row.Row.newest.Goals as goal

pub returns-in-Ok-clause-found : goal.returns-in-Ok-clause-found
returns-in-Ok-clause-found g c =
    newest_found_in _ _ _ _ _ c.requires.row (sym (fields_long c.args.entries.now.items))
    (line_of c.args.sought.now.line).field (Some (c.args.dropped + c.position.result + 1))
    (found_some _ _ _ _ (key_of c.args.sought.now) _ _ c.index.result.now c.in-Ok.ensures.place c.index.ensures
    (sym c.position.ensures))

pub returns-in-Ok-clause-steps : goal.returns-in-Ok-clause-steps
returns-in-Ok-clause-steps g c =
    counts_fewer _ _ _ _ (omega (arith, row_few _ _ _ _ c.requires.row.is_row, fields_long c.args.entries.now.items))
    c.search.ensures.steps

pub returns-in-Err-clause-found : goal.returns-in-Err-clause-found
returns-in-Err-clause-found g c =
    newest_found_in _ _ _ _ _ c.requires.row (sym (fields_long c.args.entries.now.items))
    (line_of c.args.sought.now.line).field None
    (found_none _ _ _ _ c.requires.row.is_row (key_of c.args.sought.now) (line_of c.args.sought.now.line).field refl
    c.requires.hashed _ c.in-Err.ensures.place)

pub returns-in-Err-clause-steps : goal.returns-in-Err-clause-steps
returns-in-Err-clause-steps g c =
    counts_fewer _ _ _ _ (omega (arith, row_few _ _ _ _ c.requires.row.is_row, fields_long c.args.entries.now.items))
    c.search.ensures.steps
