use Rattle.std.proofs.Common.{◌++◌, sym, ap, ◌∙◌}
use Rattle.std.proofs.lemmas.Result.{err_from_is_err_and}
use Rattle.qpack_spec.specs.Line.{Line, coded_marked_line}
use Rattle.qpack_base.specs.HeaderFields.{line_of}
use Rattle.qpack_table.proofs.Newest.{newest_above, newest_inserted}
use Rattle.qpack_table.specs.Handles.{lookup_of}
use Rattle.qpack_codec.proofs.ChosenLines.{adds_named, named_of, found_keeps, sought_still}
use Rattle.qpack_codec.proofs.Stills.{still_written}
use Rattle.qpack_base.specs.Codings.{coding_of}
use Rattle.qpack_codec.proofs.encoder.chosen_fields.append_named.Goals as goal

pub reference-requires-clause-live : goal.reference-requires-clause-live
reference-requires-clause-live g c = newest_above c.args.block.now.table.now _ _ c.newest_name-newest.ensures

pub reference-requires-clause-inserted : goal.reference-requires-clause-inserted
reference-requires-clause-inserted g c = newest_inserted c.args.block.now.table.now _ _ c.newest_name-newest.ensures

pub returns-in-NotFound-clause-ok : goal.returns-in-NotFound-clause-ok
returns-in-NotFound-clause-ok g c =
    adds_named c.args.block.now.table.now c.reference.new.self.table.now c.args.block.now.base
    (line_of c.args.field.now) c.newest_name-newest.result (lookup_of c.in-Ok.lookup) c.args.lines.now.items
    c.append_alone.new.lines.items c.newest_name-newest.ensures c.in-Ok.ensures.found
    (rw c.in-NotFound.is c.in_ok-append_alone.ensures.writes.ok)

pub returns-in_err-append_literal : goal.returns-in_err-append_literal
returns-in_err-append_literal g c =
    let p = err_from_is_err_and c.from_residual-in_err-append_literal.result
    c.from_residual-in_err-append_literal.ensures.1 in
    rw p.1 (record {
      same_table = c.reference.ensures.same_table;
      stream = c.reference.ensures.stream;
      base = c.reference.ensures.base;
      ok = tt;
      sought = tt;
      err = found_keeps c.args.block.now.table.now c.reference.new.self.table.now c.args.block.now.base
          c.newest_name-newest.result (lookup_of c.in-Ok.lookup) c.in-Ok.ensures.found;
      as_before = c.in_err-append_literal.ensures.writes.err;
      capacity = c.append_literal.ensures.writes.capacity;
      still = tt;
    })

pub returns : goal.returns
returns g c =
    let l = line_of c.args.field.now in
    record {
      same_table = c.reference.ensures.same_table;
      stream = c.reference.ensures.stream;
      base = c.reference.ensures.base;
      ok = adds_named c.args.block.now.table.now c.reference.new.self.table.now c.args.block.now.base l
          c.newest_name-newest.result (lookup_of c.in-Ok.lookup) c.args.lines.now.items c.append_literal.new.buf.items
          c.newest_name-newest.ensures c.in-Ok.ensures.found
          (c.in_ok-append_literal.ensures.writes.ok
          ∙ ap (λ (x : Line). c.args.lines.now.items ++ coded_marked_line (coding_of c.args.coding) l.never_indexed x)
          (sym (named_of l.field c.in-Ok.lookup c.in_default-lookup.not-NotFound)));
      sought = sought_still c.args.block.now.table.now c.reference.new.self.table.now c.args.block.now.base
          c.newest_name-newest.result (lookup_of c.in-Ok.lookup) (line_of c.args.field.now).field c.args.sought.now
          c.in-Ok.ensures.found;
      err = tt;
      as_before = tt;
      capacity = c.append_literal.ensures.writes.capacity;
      still = still_written _ c.args.lines.now c.append_literal.new.buf c.in_ok-append_literal.ensures.writes.ok
          c.in_ok-append_literal.ensures.writes.still;
    }
