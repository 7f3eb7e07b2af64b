use Rattle.std.proofs.Common.{ℕ, List, ◌++◌, ◌*◌, ap, ◌∙◌, arith}
use Rattle.std.proofs.lemmas.Bool.{and_parts}
use Rattle.std.proofs.lemmas.Result.{err_from_is_err_and}
use Rattle.qpack_spec.specs.Field.{field_size}
use Rattle.qpack_spec.specs.Table.{below_limit, has_room}
use Rattle.qpack_base.specs.HeaderFields.{line_of}
use Rattle.qpack_table.proofs.Insertions.{room_fits}
use Rattle.qpack_table.specs.Handles.{insertion_of, naming_of}
use Rattle.qpack_codec.specs.Encoding.{written_insertion}
use Rattle.qpack_codec.proofs.ChosenLines.{IsInserted, adds_new, stops_new, adds_not_new, inserts_some, inserts_nothing}
use Rattle.qpack_codec.proofs.InstructionsRoom.{MakesRoom, grows_written}
use Rattle.qpack_codec.proofs.Rooms.{no_err}
use Rattle.qpack_base.specs.Codings.{coding_of}
use Rattle.qpack_codec.proofs.encoder.chosen_fields.append_insertion_or_alone.Goals as goal

pub returns-in_default-inserted-clause-ok : goal.returns-in_default-inserted-clause-ok
returns-in_default-inserted-clause-ok g c =
    let none = inserts_nothing _ c.in-Ok.inserted _ c.args.block.now.table.now c.insert_sought.new.self.table.now
    c.in_default-inserted.is c.in-Ok.ensures.inserted in
    adds_not_new (naming_of c.args.naming) c.args.block.now.table.now c.insert_sought.new.self.table.now c.args.block.now.base
    (line_of c.args.field.now) c.args.lines.now.items c.append_alone.new.lines.items c.args.encoder_buf.now.items
    c.make_room.new.buf.items none.0 none.1 c.requires.no_static c.requires.unmarked
    c.in_ok-append_alone.ensures.writes.ok c.in_ok-make_room.ensures.items

pub returns-in_err-write_instruction-clause-err : goal.returns-in_err-write_instruction-clause-err
returns-in_err-write_instruction-clause-err g c =
    let f = (line_of c.args.field.now).field in
    let some = inserts_some _ c.in-Ok.inserted c.in-Some.insertion _ c.args.block.now.table.now
    c.insert_sought.new.self.table.now c.in-Some.is c.in-Ok.ensures.inserted in
    let enough = c.instruction_room.ensures.any (room_fits c.args.block.now.table.now f (and_parts (below_limit c.args.block.now.table.now) (has_room c.args.block.now.table.now f) some.0).1)
    (coding_of c.args.coding) (insertion_of c.in-Some.insertion) in
    absurd (no_err c.write_instruction.result _
    (c.write_instruction.ensures.writes.succeeds (omega (arith, enough, c.in_ok-make_room.ensures.ok)))
    c.in_err-write_instruction.was)

pub returns-in_err-append_inserted-clause-err : goal.returns-in_err-append_inserted-clause-err
returns-in_err-append_inserted-clause-err g c =
    let p = err_from_is_err_and c.from_residual-in_err-append_inserted.result
    c.from_residual-in_err-append_inserted.ensures.1 in
    let f = (line_of c.args.field.now).field in
    let some = inserts_some _ c.in-Ok.inserted c.in-Some.insertion _ c.args.block.now.table.now
    c.insert_sought.new.self.table.now c.in-Some.is c.in-Ok.ensures.inserted in
    let inserted : IsInserted (coding_of c.args.coding) (naming_of c.args.naming) c.args.block.now.table.now c.args.block.now.base f (insertion_of c.in-Some.insertion)
    c.insert_sought.new.self.table.now c.args.encoder_buf.now.items c.write_instruction.new.buf.items = record {
      can = some.0;
      is = some.1;
      written = c.in_ok-write_instruction.ensures.writes.ok
          ∙ ap (λ (x : List ℕ). x ++ written_insertion (coding_of c.args.coding) f (insertion_of c.in-Some.insertion))
          c.in_ok-make_room.ensures.items;
    } in
    rw p.1 (stops_new inserted)

pub returns-clause-ok : goal.returns-clause-ok
returns-clause-ok g c =
    let f = (line_of c.args.field.now).field in
    let some = inserts_some _ c.in-Ok.inserted c.in-Some.insertion _ c.args.block.now.table.now
    c.insert_sought.new.self.table.now c.in-Some.is c.in-Ok.ensures.inserted in
    let inserted : IsInserted (coding_of c.args.coding) (naming_of c.args.naming) c.args.block.now.table.now c.args.block.now.base f (insertion_of c.in-Some.insertion)
    c.insert_sought.new.self.table.now c.args.encoder_buf.now.items c.write_instruction.new.buf.items = record {
      can = some.0;
      is = some.1;
      written = c.in_ok-write_instruction.ensures.writes.ok
          ∙ ap (λ (x : List ℕ). x ++ written_insertion (coding_of c.args.coding) f (insertion_of c.in-Some.insertion))
          c.in_ok-make_room.ensures.items;
    } in
    adds_new inserted c.args.lines.now.items c.append_inserted.new.buf.items c.in_ok-append_inserted.ensures.writes.ok

pub returns-in_err-write_instruction-clause-instructions : goal.returns-in_err-write_instruction-clause-instructions
returns-in_err-write_instruction-clause-instructions g c =
    let f = (line_of c.args.field.now).field in
    let some = inserts_some _ c.in-Ok.inserted c.in-Some.insertion _ c.args.block.now.table.now
    c.insert_sought.new.self.table.now c.in-Some.is c.in-Ok.ensures.inserted in
    let makes : MakesRoom (4 * field_size (line_of c.args.field.now).field) c.args.encoder_buf.now c.make_room.new.buf =
    record {
      least = c.instruction_room.result;
      within = c.instruction_room.ensures.most;
      len = c.make_room.ensures.len;
      still = c.make_room.ensures.still;
      capacity = c.make_room.ensures.capacity;
    } in
    grows_written makes _ c.write_instruction.new.buf c.write_instruction.result c.in_ok-make_room.ensures.ok
    (c.instruction_room.ensures.any (room_fits c.args.block.now.table.now f (and_parts (below_limit c.args.block.now.table.now) (has_room c.args.block.now.table.now f) some.0).1) (coding_of c.args.coding) (insertion_of c.in-Some.insertion))
    c.write_instruction.ensures.writes

pub returns-in_err-append_inserted-clause-instructions : goal.returns-in_err-append_inserted-clause-instructions
returns-in_err-append_inserted-clause-instructions g c =
    let f = (line_of c.args.field.now).field in
    let some = inserts_some _ c.in-Ok.inserted c.in-Some.insertion _ c.args.block.now.table.now
    c.insert_sought.new.self.table.now c.in-Some.is c.in-Ok.ensures.inserted in
    let makes : MakesRoom (4 * field_size (line_of c.args.field.now).field) c.args.encoder_buf.now c.make_room.new.buf =
    record {
      least = c.instruction_room.result;
      within = c.instruction_room.ensures.most;
      len = c.make_room.ensures.len;
      still = c.make_room.ensures.still;
      capacity = c.make_room.ensures.capacity;
    } in
    grows_written makes _ c.write_instruction.new.buf c.write_instruction.result c.in_ok-make_room.ensures.ok
    (c.instruction_room.ensures.any (room_fits c.args.block.now.table.now f (and_parts (below_limit c.args.block.now.table.now) (has_room c.args.block.now.table.now f) some.0).1) (coding_of c.args.coding) (insertion_of c.in-Some.insertion))
    c.write_instruction.ensures.writes

pub returns-clause-instructions : goal.returns-clause-instructions
returns-clause-instructions g c =
    let f = (line_of c.args.field.now).field in
    let some = inserts_some _ c.in-Ok.inserted c.in-Some.insertion _ c.args.block.now.table.now
    c.insert_sought.new.self.table.now c.in-Some.is c.in-Ok.ensures.inserted in
    let makes : MakesRoom (4 * field_size (line_of c.args.field.now).field) c.args.encoder_buf.now c.make_room.new.buf =
    record {
      least = c.instruction_room.result;
      within = c.instruction_room.ensures.most;
      len = c.make_room.ensures.len;
      still = c.make_room.ensures.still;
      capacity = c.make_room.ensures.capacity;
    } in
    grows_written makes _ c.write_instruction.new.buf c.write_instruction.result c.in_ok-make_room.ensures.ok
    (c.instruction_room.ensures.any (room_fits c.args.block.now.table.now f (and_parts (below_limit c.args.block.now.table.now) (has_room c.args.block.now.table.now f) some.0).1) (coding_of c.args.coding) (insertion_of c.in-Some.insertion))
    c.write_instruction.ensures.writes
