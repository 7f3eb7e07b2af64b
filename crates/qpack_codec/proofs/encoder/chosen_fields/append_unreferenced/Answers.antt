use Rattle.std.proofs.Common.{ℕ, List, ◌++◌, ◌*◌, ap, ◌∙◌, arith}
use Rattle.qpack_spec.specs.Field.{field_size}
use Rattle.qpack_base.specs.HeaderFields.{line_of}
use Rattle.qpack_table.proofs.Insertions.{room_fits}
use Rattle.qpack_table.specs.Handles.{insertion_of, naming_of}
use Rattle.qpack_codec.specs.Encoding.{written_insertion}
use Rattle.qpack_codec.proofs.ChosenLines.{unreferenced_written, no_room_written, inserts_some, inserts_nothing}
use Rattle.qpack_codec.proofs.InstructionsRoom.{MakesRoom, grows_written}
use Rattle.qpack_codec.proofs.Rooms.{no_err}
use Rattle.qpack_base.specs.Codings.{coding_of}
use Rattle.qpack_codec.proofs.encoder.chosen_fields.append_unreferenced.Goals as goal

pub returns-in_err-write_instruction-in-Some-clause-same : goal.returns-in_err-write_instruction-in-Some-clause-same
returns-in_err-write_instruction-in-Some-clause-same g c =
    let f = (line_of c.args.field.now).field in
    let some = inserts_some _ c.in-Ok.inserted c.in-Some.insertion _ c.args.block.now.table.now
    c.insert_unreferenced.new.self.table.now c.in-Some.is c.in-Ok.ensures.inserted in
    let enough = c.instruction_room.ensures.any (room_fits c.args.block.now.table.now f some.0)
    (coding_of c.args.coding) (insertion_of c.in-Some.insertion) in
    absurd (no_err c.write_instruction.result _
    (c.write_instruction.ensures.writes.succeeds (omega (arith, enough, c.in_ok-make_room.ensures.ok)))
    c.in_err-write_instruction-in-Some.was)

pub returns-in_err-write_instruction-in-Some-clause-instructions :
    goal.returns-in_err-write_instruction-in-Some-clause-instructions
returns-in_err-write_instruction-in-Some-clause-instructions g c =
    let f = (line_of c.args.field.now).field in
    let some = inserts_some _ c.in-Ok.inserted c.in-Some.insertion _ c.args.block.now.table.now
    c.insert_unreferenced.new.self.table.now c.in-Some.is c.in-Ok.ensures.inserted in
    let makes : MakesRoom (4 * field_size (line_of c.args.field.now).field) c.args.encoder_buf.now c.make_room.new.buf =
    record {
      least = c.instruction_room.result;
      within = c.instruction_room.ensures.most;
      len = c.make_room.ensures.len;
      still = c.make_room.ensures.still;
      capacity = c.make_room.ensures.capacity;
    } in
    grows_written makes _ c.write_instruction.new.buf c.write_instruction.result c.in_ok-make_room.ensures.ok
    (c.instruction_room.ensures.any (room_fits c.args.block.now.table.now f some.0) (coding_of c.args.coding) (insertion_of c.in-Some.insertion))
    c.write_instruction.ensures.writes

pub returns-in_ok-write_instruction-in-Some-clause-written :
    goal.returns-in_ok-write_instruction-in-Some-clause-written
returns-in_ok-write_instruction-in-Some-clause-written g c =
    let f = (line_of c.args.field.now).field in
    let some = inserts_some _ c.in-Ok.inserted c.in-Some.insertion _ c.args.block.now.table.now
    c.insert_unreferenced.new.self.table.now c.in-Some.is c.in-Ok.ensures.inserted in
    unreferenced_written (coding_of c.args.coding) (naming_of c.args.naming) c.args.block.now.table.now c.insert_unreferenced.new.self.table.now c.args.block.now.base f
    (insertion_of c.in-Some.insertion) c.args.encoder_buf.now.items c.write_instruction.new.buf.items some.0 some.1
    (c.in_ok-write_instruction-in-Some.ensures.writes.ok
    ∙ ap (λ (x : List ℕ). x ++ written_insertion (coding_of c.args.coding) f (insertion_of c.in-Some.insertion)) c.in_ok-make_room.ensures.items)

pub returns-in_ok-write_instruction-in-Some-clause-instructions :
    goal.returns-in_ok-write_instruction-in-Some-clause-instructions
returns-in_ok-write_instruction-in-Some-clause-instructions g c =
    let f = (line_of c.args.field.now).field in
    let some = inserts_some _ c.in-Ok.inserted c.in-Some.insertion _ c.args.block.now.table.now
    c.insert_unreferenced.new.self.table.now c.in-Some.is c.in-Ok.ensures.inserted in
    let makes : MakesRoom (4 * field_size (line_of c.args.field.now).field) c.args.encoder_buf.now c.make_room.new.buf =
    record {
      least = c.instruction_room.result;
      within = c.instruction_room.ensures.most;
      len = c.make_room.ensures.len;
      still = c.make_room.ensures.still;
      capacity = c.make_room.ensures.capacity;
    } in
    grows_written makes _ c.write_instruction.new.buf c.write_instruction.result c.in_ok-make_room.ensures.ok
    (c.instruction_room.ensures.any (room_fits c.args.block.now.table.now f some.0) (coding_of c.args.coding) (insertion_of c.in-Some.insertion))
    c.write_instruction.ensures.writes

pub returns-in-None-clause-written : goal.returns-in-None-clause-written
returns-in-None-clause-written g c =
    let none = inserts_nothing _ c.in-Ok.inserted _ c.args.block.now.table.now c.insert_unreferenced.new.self.table.now
    c.in-None.is c.in-Ok.ensures.inserted in
    no_room_written (coding_of c.args.coding) (naming_of c.args.naming) c.args.block.now.table.now (line_of c.args.field.now).field c.args.encoder_buf.now.items
    c.make_room.new.buf.items none.0 c.in_ok-make_room.ensures.items
